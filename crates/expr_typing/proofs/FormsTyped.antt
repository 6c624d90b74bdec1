-- The types of forms of expressions that break nothing, from those of their parts.
use Rattle.std.proofs.Common.{◌≡◌, ℤ, [], true, false, Option, Some, None, is_none, refl, ap, sym, ◌∙◌, subst}
use Rattle.std.specs.Int.{int_wrap}
use Rattle.std.specs.Option.{option_map}
use Rattle.std.proofs.lemmas.Bool.{not-false}
use Rattle.std.proofs.lemmas.Int.{SFits-int_wrap, int_wrap_fits}
use mir.Syntax.{w32}
use Rattle.rag_io.specs.declared.token.Place.{Place}
use Rattle.broken_rules.specs.Notes.{at, broken_if}
use Rattle.broken_rules.specs.declared.rule.Rule.TheVariants.{J10}
use Rattle.broken_rules.proofs.Clean.{append_none, not_broken}
use Rattle.aspect_items.specs.declared.expression.Operator.{Operator}
use Rattle.aspect_items.specs.declared.expression.Operator.TheVariants as signs
use Rattle.ast_grammar.specs.Grammar.{class_named}
use Rattle.aspect_items.specs.Expressions.{Expr, Name}
use Rattle.attr_rules.specs.declared.expression.Operator as kept_operator
use Rattle.attr_rules.specs.declared.expression.Operator.TheVariants as kept
use Rattle.attr_rules.specs.declared.kinds.Kind.{Kind}
use Rattle.attr_rules.specs.declared.kinds.Kind.TheVariants as kinds
use Rattle.attr_rules.specs.declared.types.ValueType.{ValueType}
use Rattle.attr_rules.specs.declared.types.ValueType.TheVariants as types
use Rattle.attr_rules.specs.Expression as said
use Rattle.attr_rules.specs.Expression.{Expression}
use Rattle.attr_rules.specs.Types.{class_of_number, common, comparable, fits, is_int, is_node, is_truth}
use Rattle.attr_rules.specs.Typing as typing
use Rattle.attr_rules.specs.Typing.{HasType, Names, TakesInts}
use Rattle.expr_typing.specs.Fitting.{are_apart, both_misfit, choice_broken, equal_broken, is_no_node, is_unfit, misfit, no_node, sides_broken}
use Rattle.attr_scope.specs.Classes.{class_broken, class_or_first}
use Rattle.expr_typing.specs.Places.{place_of}
use Rattle.expr_typing.specs.SetForms.{common_of, have_no_common, int, truth}
use Rattle.expr_typing.specs.Typed.{class_type, joined, result_of}
use Rattle.attr_scope.specs.WrittenTypes.{class_numbered}
use Rattle.attr_scope.proofs.ClassesFound.{class_there, class_within}

-- An expression is typed, and of the type that is known.
pub record IsTyped (N : Names) (t : Option ValueType) (e : Expression) : Type 0 where
  pub type : ValueType
  pub is : t ≡ Some type
  pub typed : HasType N e type

truth_is : (t : ValueType) → is_truth t ≡ true → t ≡ types.Of kinds.Truth
truth_is types.Null e = absurd (cc)
truth_is types.Empty e = absurd (cc)
truth_is (types.Of kinds.Truth) e = refl
truth_is (types.Of kinds.Int) e = absurd (cc)
truth_is (types.Of kinds.Text) e = absurd (cc)
truth_is (types.Of (kinds.Node c)) e = absurd (cc)
truth_is (types.Of kinds.Texts) e = absurd (cc)
truth_is (types.Of (kinds.Nodes c)) e = absurd (cc)

pub int_is : (t : ValueType) → is_int t ≡ true → t ≡ types.Of kinds.Int
int_is types.Null e = absurd (cc)
int_is types.Empty e = absurd (cc)
int_is (types.Of kinds.Truth) e = absurd (cc)
int_is (types.Of kinds.Int) e = refl
int_is (types.Of kinds.Text) e = absurd (cc)
int_is (types.Of (kinds.Node c)) e = absurd (cc)
int_is (types.Of kinds.Texts) e = absurd (cc)
int_is (types.Of (kinds.Nodes c)) e = absurd (cc)

pub known_type : (o : Option ValueType) → is_none o ≡ false → (t : ValueType) × (o ≡ Some t)
known_type None e = absurd (cc)
known_type (Some t) e = (t, refl)

module _ (N : Names) where
  -- an expression whose type is known
  pub of_type : (t : ValueType) (e : Expression) → HasType N e t → IsTyped N (Some t) e
  of_type t e typed = record { type = t; is = refl; typed = typed }

  -- it fits
  pub fitting : (wanted : Kind) (t : Option ValueType) (u : ValueType) (e : Expr) → t ≡ Some u → misfit N.grammar wanted t e ≡ [] → fits N.grammar u wanted ≡ true
  fitting wanted t u e is none = not-false (fits N.grammar u wanted) (ap (λ o. is_unfit N.grammar o wanted) (sym is) ∙ not_broken (is_unfit N.grammar t wanted) (at (place_of e) J10) none)

  pub wanted_truth : (t : Option ValueType) (e : Expr) (a : Expression) → IsTyped N t a → misfit N.grammar kinds.Truth t e ≡ [] → HasType N a (types.Of kinds.Truth)
  wanted_truth t e a typed none = subst (HasType N a) (truth_is typed.type (fitting kinds.Truth t typed.type e typed.is none)) typed.typed

  pub wanted_int : (t : Option ValueType) (e : Expr) (a : Expression) → IsTyped N t a → misfit N.grammar kinds.Int t e ≡ [] → HasType N a (types.Of kinds.Int)
  wanted_int t e a typed none = subst (HasType N a) (int_is typed.type (fitting kinds.Int t typed.type e typed.is none)) typed.typed

  -- a literal
  pub literal_typed : (z : ℤ) → IsTyped N int (said.Int (int_wrap w32 z))
  literal_typed z = of_type (types.Of kinds.Int) (said.Int (int_wrap w32 z)) (typing.int (int_wrap w32 z) (int_wrap_fits w32 (int_wrap w32 z) (SFits-int_wrap w32 z)))

  pub not_typed : (t : Option ValueType) (e : Expr) (a : Expression) → IsTyped N t a → misfit N.grammar kinds.Truth t e ≡ [] → IsTyped N truth (said.Not a)
  not_typed t e a typed none = of_type (types.Of kinds.Truth) (said.Not a) (typing.not (wanted_truth t e a typed none))

  pub negate_typed : (t : Option ValueType) (e : Expr) (a : Expression) → IsTyped N t a → misfit N.grammar kinds.Int t e ≡ [] → IsTyped N int (said.Negate a)
  negate_typed t e a typed none = of_type (types.Of kinds.Int) (said.Negate a) (typing.negate (wanted_int t e a typed none))

  -- a part that is known to be a node or `null`
  node_there : (t : Option ValueType) (u : ValueType) (e : Expr) → t ≡ Some u → no_node t e ≡ [] → is_node u ≡ true
  node_there t u e is none = not-false (is_node u) (ap is_no_node (sym is) ∙ not_broken (is_no_node t) (at (place_of e) J10) none)

  -- a cast, and a test of a class
  pub cast_typed : (n : Name) (t : Option ValueType) (e : Expr) (a : Expression) → IsTyped N t a → class_broken N.grammar n ≡ [] → no_node t e ≡ []
      → IsTyped N (class_type N.grammar n.text) (said.Cast (class_or_first (class_named N.grammar n.text)) a)
  cast_typed n t e a typed named node =
      let class = class_there N.grammar n named in
      let within = class_within N.grammar n.text class.0 class.1 in
      subst (λ o. IsTyped N (option_map class_of_number o) (said.Cast (class_or_first o) a)) (sym class.1)
      (of_type (class_of_number class.0) (said.Cast (class_numbered class.0) a) (typing.cast typed.type (class_numbered class.0) typed.typed (node_there t typed.type e typed.is node) within))

  pub test_typed : (n : Name) (t : Option ValueType) (e : Expr) (a : Expression) → IsTyped N t a → class_broken N.grammar n ≡ [] → no_node t e ≡ []
      → IsTyped N truth (said.InstanceOf (class_or_first (class_named N.grammar n.text)) a)
  test_typed n t e a typed named node =
      let class = class_there N.grammar n named in
      let within = class_within N.grammar n.text class.0 class.1 in
      subst (λ o. IsTyped N truth (said.InstanceOf (class_or_first o) a)) (sym class.1)
      (of_type (types.Of kinds.Truth) (said.InstanceOf (class_numbered class.0) a) (typing.instance_of typed.type (class_numbered class.0) typed.typed (node_there t typed.type e typed.is node) within))

  module _ (t : Option ValueType) (e : Expr) (a : Expression) (u : Option ValueType) (f : Expr) (b : Expression) (first : IsTyped N t a) (second : IsTyped N u b) where
    both_ints : (o : kept_operator.Operator) (k : Kind) → TakesInts o k → both_misfit N.grammar kinds.Int t e u f ≡ [] → HasType N (said.Binary o a b) (types.Of k)
    both_ints o k takes none =
        let parts = append_none (misfit N.grammar kinds.Int t e) (misfit N.grammar kinds.Int u f) none in
        typing.ints o k takes (wanted_int t e a first parts.0) (wanted_int u f b second parts.1)

    both_truths : both_misfit N.grammar kinds.Truth t e u f ≡ [] → HasType N a (types.Of kinds.Truth) × HasType N b (types.Of kinds.Truth)
    both_truths none =
        let parts = append_none (misfit N.grammar kinds.Truth t e) (misfit N.grammar kinds.Truth u f) none in
        (wanted_truth t e a first parts.0, wanted_truth u f b second parts.1)

    both_equal : equal_broken t u f ≡ [] → HasType N (said.Binary kept.Equal a b) (types.Of kinds.Truth)
    both_equal none =
        let apart : are_apart (Some first.type) (Some second.type) ≡ false = (λ i. are_apart (sym first.is i) (sym second.is i)) ∙ not_broken (are_apart t u) (at (place_of f) J10) none in
        typing.equal first.type second.type first.typed second.typed (not-false (comparable first.type second.type) apart)

    -- two expressions and an operator
    pub joined_typed : (o : Operator) → sides_broken N.grammar o t e u f ≡ [] → IsTyped N (result_of o) (joined o a b)
    joined_typed signs.Multiply none = of_type (types.Of kinds.Int) (said.Binary kept.Multiply a b) (both_ints kept.Multiply kinds.Int typing.multiply none)
    joined_typed signs.Add none = of_type (types.Of kinds.Int) (said.Binary kept.Add a b) (both_ints kept.Add kinds.Int typing.add none)
    joined_typed signs.Subtract none = of_type (types.Of kinds.Int) (said.Binary kept.Subtract a b) (both_ints kept.Subtract kinds.Int typing.subtract none)
    joined_typed signs.Less none = of_type (types.Of kinds.Truth) (said.Binary kept.Less a b) (both_ints kept.Less kinds.Truth typing.less none)
    joined_typed signs.AtMost none = of_type (types.Of kinds.Truth) (said.Binary kept.AtMost a b) (both_ints kept.AtMost kinds.Truth typing.at_most none)
    joined_typed signs.Greater none = of_type (types.Of kinds.Truth) (said.Binary kept.Greater a b) (both_ints kept.Greater kinds.Truth typing.greater none)
    joined_typed signs.AtLeast none = of_type (types.Of kinds.Truth) (said.Binary kept.AtLeast a b) (both_ints kept.AtLeast kinds.Truth typing.at_least none)
    joined_typed signs.Equal none = of_type (types.Of kinds.Truth) (said.Binary kept.Equal a b) (both_equal none)
    joined_typed signs.Differ none = of_type (types.Of kinds.Truth) (said.Not (said.Binary kept.Equal a b)) (typing.not (both_equal none))
    joined_typed signs.And none = let both = both_truths none in of_type (types.Of kinds.Truth) (said.And a b) (typing.and both.0 both.1)
    joined_typed signs.Or none = let both = both_truths none in of_type (types.Of kinds.Truth) (said.Or a b) (typing.or both.0 both.1)

    -- a choice
    pub choice_typed : (r : Option ValueType) (h : Expr) (c : Expression) (at_place : Option Place) → IsTyped N r c → choice_broken N.grammar r h t u f ≡ [] → IsTyped N (common_of N.grammar t u) (said.If c a at_place b)
    choice_typed r h c at_place condition none =
        let parts = append_none (misfit N.grammar kinds.Truth r h) (broken_if (have_no_common N.grammar t u) (at (place_of f) J10)) none in
        let shared = common N.grammar first.type second.type in
        let there : is_none shared ≡ false = (λ i. have_no_common N.grammar (sym first.is i) (sym second.is i)) ∙ not_broken (have_no_common N.grammar t u) (at (place_of f) J10) parts.1 in
        let found = known_type shared there in
        record {
          type = found.0;
          is = (λ i. common_of N.grammar (first.is i) (second.is i)) ∙ found.1;
          typed = typing.choice at_place first.type second.type found.0 (wanted_truth r h c condition parts.0) first.typed second.typed found.1;
        }
