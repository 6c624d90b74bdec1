-- What breaks nothing has a type by the rules.
use Rattle.std.proofs.Common.{◌≡◌, ℕ, ◌≤◌, ◌==◌, ◌⊎◌, inl, inr, List, [], ◌∷◌, ◌++◌, Bool, true, false, not, ◌&&◌, Option, Some, None, IsSome, is_none, length, nat_lt, refl, ap, sym, ◌∙◌, subst, arith, if◌then◌else◌, eqb-true}
use Rattle.std.specs.Option.{option_and_then, option_map}
use Rattle.std.specs.Str.{bytes_eq}
use Rattle.std.proofs.lemmas.Bool.{ltb-false, not-false}
use Rattle.std.proofs.lemmas.List.Elements.{All-cons}
use Rattle.rag_io.specs.declared.token.Place.{Place}
use Rattle.broken_rules.specs.declared.rule.Rule.TheVariants.{J9, J10, J11, J17}
use Rattle.broken_rules.specs.Notes.{at, broken_if}
use Rattle.broken_rules.proofs.Clean.{append_none, not_broken}
use Rattle.superclasses.specs.Superclasses.{is_sub as is_below}
use Rattle.ast_grammar.specs.declared.grammar.ClassId.{ClassId}
use Rattle.ast_grammar.specs.Grammar.{Class}
use Rattle.attr_rules.specs.declared.accessors.Access.{Access}
use Rattle.attr_rules.specs.declared.accessors.Access.TheVariants as access
use Rattle.attr_rules.specs.declared.accessors.Accessor.{Accessor}
use Rattle.attr_rules.specs.declared.kinds.Attr.{Attr}
use Rattle.attr_rules.specs.declared.kinds.Kind.{Kind}
use Rattle.attr_rules.specs.declared.kinds.Kind.TheVariants as kinds
use Rattle.attr_rules.specs.declared.types.ValueType.{ValueType}
use Rattle.attr_rules.specs.declared.types.ValueType.TheVariants as types
use Rattle.attr_rules.specs.Accessors.{accessor_of, arguments_of, type_read}
use Rattle.attr_rules.specs.Rules.{Attribute, attribute_named, declared_at, declared_of}
use Rattle.attr_rules.specs.Types.{class_in, class_of_number, common, comparable, elements_of, fits, is_node, is_truth, may_be_element, of_class, set_of}
use Rattle.aspect_items.specs.declared.expression.Operator.{Operator}
use Rattle.aspect_items.specs.declared.expression.Operator.TheVariants as signs
use Rattle.aspect_items.specs.declared.expression.Quantifier.{Quantifier}
use Rattle.aspect_items.specs.declared.expression.Quantifier.TheVariants as quantifiers
use Rattle.aspect_items.specs.Expressions.{Expr, Arguments, Name, no_more, argument, Truth, Null, Empty, This, Int, Text, Source, Variable as Named, Call, Member, New, Quantified, Group, Cast, Not, Negate, Binary, InstanceOf, If}
use Rattle.attr_scope.specs.declared.scope.Member as member
use Rattle.attr_scope.specs.declared.scope.Member.TheVariants as members
use Rattle.attr_scope.specs.Classes.{class_broken}
use Rattle.attr_scope.specs.Scope.{Scope, Variable, arguments_wanted, attribute_in, calls, either_member, is_elements, is_list, kinds_declared, kind_declared, list_called, member_of, member_on, type_called, variable_named, wanted_for, with_variable}
use Rattle.attr_scope.proofs.ClassesFound.{class_there}
use Rattle.attr_scope.proofs.ItemsFound.{position_found, some_there}
use Rattle.expr_typing.specs.declared.ranges.Elements.{Elements}
use Rattle.expr_typing.specs.declared.ranges.Elements.TheVariants as elements
use Rattle.expr_typing.specs.declared.set_forms.SetForm.{SetForm}
use Rattle.expr_typing.specs.declared.set_forms.SetForm.TheVariants as forms
use Rattle.expr_typing.specs.declared.standing.Stands.{Stands}
use Rattle.expr_typing.specs.declared.standing.Stands.TheVariants.{Anywhere, Negated, Range}
use Rattle.expr_typing.specs.Calls.{call_broken, member_broken, on_class_broken}
use Rattle.expr_typing.specs.Fitting.{are_apart, body_misfit, choice_broken, equal_broken, has_no_elements, is_no_node, is_unfit, misfit, no_node, no_range, sides_broken}
use Rattle.expr_typing.specs.Places.{place_of}
use Rattle.expr_typing.specs.SetForms.{common_of, form_named, form_type, has_no_sets, have_no_common, is_foreign, no_set, one_broken, pair_broken, set_known}
use Rattle.expr_typing.specs.Standing.{greatest, is_range}
use Rattle.expr_typing.specs.Typed.{count, element_kind, element_named, elements_over, inside, known, list_alone, list_of, quantified_type, range_of, set_over, type_alone, types_known}
use Rattle.expr_typing.proofs.FormsTyped.{int_is}
use Rattle.expr_typing.proofs.MembersTyped.{class_is}
use Rattle.expr_typing.proofs.SetFormsTyped.{set_is, set_there}
use Rattle.attr_bodies.specs.Bodies.{alone_broken, arguments_broken, expr_broken, form_broken, wanted_alone}
use Rattle.typing_rules.specs.TypeRules as rules
use Rattle.typing_rules.specs.TypeRules.{Fit, GoesOver, IsCalled, IsForm, IsList, IsTyped, NamesAreKnown, OnInts, with_element}
use Rattle.typing_rules.proofs.NamesMean.{meant}
use Rattle.typing_rules.proofs.NothingBroken.{form_from, form_is, ints_known}

-- An expression has a type by the rules, which is the one that is known.
pub record Found (s : Scope) (e : Expr) : Type 0 where
  pub type : ValueType
  pub is : known s e ≡ Some type
  pub typed : IsTyped s e type

-- It is a literal that may stand behind a minus.
record IsLiteral (e : Expr) : Type 0 where
  pub place : Place
  pub number : ℕ
  pub is : e ≡ Int place number
  pub within : number ≤ 2147483648

-- It gives a whole list.
record Listed (s : Scope) (e : Expr) : Type 0 where
  pub list : Accessor
  pub untyped : known s e ≡ None
  pub is : list_of s e ≡ Some list
  pub listed : IsList s e list.class

-- what an expression is that breaks nothing where it stands
abbrev Good : Scope → Expr → Stands → Type 0
Good s e Anywhere = Found s e
Good s e Negated = Found s e ⊎ IsLiteral e
Good s e Range = Found s e ⊎ Listed s e

good : {s : Scope} {e : Expr} (w : Stands) → Found s e → Good s e w
good Anywhere h = h
good Negated h = inl h
good Range h = inl h

truth_is : (t : ValueType) → is_truth t ≡ true → t ≡ types.Of kinds.Truth
truth_is types.Null e = absurd (cc)
truth_is types.Empty e = absurd (cc)
truth_is (types.Of kinds.Truth) e = refl
truth_is (types.Of kinds.Int) e = absurd (cc)
truth_is (types.Of kinds.Text) e = absurd (cc)
truth_is (types.Of (kinds.Node c)) e = absurd (cc)
truth_is (types.Of kinds.Texts) e = absurd (cc)
truth_is (types.Of (kinds.Nodes c)) e = absurd (cc)

no_form : (name : List ℕ) → form_named name ≡ None → (f : SetForm) → IsForm name f → ⊥
no_form name none f form = let never : Some f ≡ None = sym (form_is form) ∙ none in cc

-- types that fit
module _ (g : List Class) (o : Option ValueType) (t : ValueType) (e : Expr) (is : o ≡ Some t) where
  pub fitting : (wanted : Kind) → misfit g wanted o e ≡ [] → fits g t wanted ≡ true
  fitting wanted none = not-false (fits g t wanted) (ap (λ o. is_unfit g o wanted) (sym is) ∙ not_broken (is_unfit g o wanted) (at (place_of e) J10) none)

  node_there : no_node o e ≡ [] → is_node t ≡ true
  node_there none = not-false (is_node t) (ap is_no_node (sym is) ∙ not_broken (is_no_node o) (at (place_of e) J10) none)

module _ (s : Scope) (e : Expr) (h : Found s e) where
  wanted_truth : misfit s.grammar kinds.Truth (known s e) e ≡ [] → IsTyped s e (types.Of kinds.Truth)
  wanted_truth none = subst (IsTyped s e) (truth_is h.type (fitting s.grammar (known s e) h.type e h.is kinds.Truth none)) h.typed

  wanted_int : misfit s.grammar kinds.Int (known s e) e ≡ [] → IsTyped s e (types.Of kinds.Int)
  wanted_int none = subst (IsTyped s e) (int_is h.type (fitting s.grammar (known s e) h.type e h.is kinds.Int none)) h.typed

  cast_found : (p : Place) (n : Name) → class_broken s.grammar n ≡ [] → no_node (known s e) e ≡ [] → Found s (Cast p n e)
  cast_found p n named node =
      let class = class_there s.grammar n named in
      record { type = class_of_number class.0; is = ap (option_map class_of_number) class.1; typed = rules.cast p n class.0 h.type class.1 h.typed (node_there s.grammar (known s e) h.type e h.is node) }

  test_found : (n : Name) → class_broken s.grammar n ≡ [] → no_node (known s e) e ≡ [] → Found s (InstanceOf e n)
  test_found n named node =
      let class = class_there s.grammar n named in
      record { type = types.Of kinds.Truth; is = refl; typed = rules.instance_of n class.0 h.type class.1 h.typed (node_there s.grammar (known s e) h.type e h.is node) }

-- the operand of a minus
negate_found : (s : Scope) (p : Place) (e : Expr) → Found s e ⊎ IsLiteral e → misfit s.grammar kinds.Int (known s e) e ≡ [] → Found s (Negate p e)
negate_found s p e (inl h) none = record { type = types.Of kinds.Int; is = refl; typed = rules.negate p (wanted_int s e h none) }
negate_found s p e (inr l) none = record { type = types.Of kinds.Int; is = refl; typed = subst (λ x. IsTyped s (Negate p x) (types.Of kinds.Int)) (sym l.is) (rules.least p l.place l.number l.within) }

-- two operands
module _ (s : Scope) (a b : Expr) (h : Found s a) (j : Found s b) where
  abbrev g : List Class
  g = s.grammar

  ints_found : (o : Operator) (k : Kind) → OnInts o k → misfit g kinds.Int (known s a) a ++ misfit g kinds.Int (known s b) b ≡ [] → Found s (Binary o a b)
  ints_found o k takes none =
      let parts = append_none (misfit g kinds.Int (known s a) a) (misfit g kinds.Int (known s b) b) none in
      record { type = types.Of k; is = ints_known o k takes; typed = rules.ints o k takes (wanted_int s a h parts.0) (wanted_int s b j parts.1) }

  truths_found : misfit g kinds.Truth (known s a) a ++ misfit g kinds.Truth (known s b) b ≡ [] → IsTyped s a (types.Of kinds.Truth) × IsTyped s b (types.Of kinds.Truth)
  truths_found none =
      let parts = append_none (misfit g kinds.Truth (known s a) a) (misfit g kinds.Truth (known s b) b) none in
      (wanted_truth s a h parts.0, wanted_truth s b j parts.1)

  compared_found : equal_broken (known s a) (known s b) b ≡ [] → comparable h.type j.type ≡ true
  compared_found none = not-false (comparable h.type j.type) ((λ i. are_apart (sym h.is i) (sym j.is i)) ∙ not_broken (are_apart (known s a) (known s b)) (at (place_of b) J10) none)

  binary_found : (o : Operator) → sides_broken g o (known s a) a (known s b) b ≡ [] → Found s (Binary o a b)
  binary_found signs.Multiply none = ints_found signs.Multiply kinds.Int rules.multiply none
  binary_found signs.Add none = ints_found signs.Add kinds.Int rules.add none
  binary_found signs.Subtract none = ints_found signs.Subtract kinds.Int rules.subtract none
  binary_found signs.Less none = ints_found signs.Less kinds.Truth rules.less none
  binary_found signs.AtMost none = ints_found signs.AtMost kinds.Truth rules.at_most none
  binary_found signs.Greater none = ints_found signs.Greater kinds.Truth rules.greater none
  binary_found signs.AtLeast none = ints_found signs.AtLeast kinds.Truth rules.at_least none
  binary_found signs.Equal none = record { type = types.Of kinds.Truth; is = refl; typed = rules.compared signs.Equal h.type j.type rules.equal h.typed j.typed (compared_found none) }
  binary_found signs.Differ none = record { type = types.Of kinds.Truth; is = refl; typed = rules.compared signs.Differ h.type j.type rules.differ h.typed j.typed (compared_found none) }
  binary_found signs.And none = let both = truths_found none in record { type = types.Of kinds.Truth; is = refl; typed = rules.truths signs.And rules.and both.0 both.1 }
  binary_found signs.Or none = let both = truths_found none in record { type = types.Of kinds.Truth; is = refl; typed = rules.truths signs.Or rules.or both.0 both.1 }

  choice_found : (c : Expr) → Found s c → choice_broken g (known s c) c (known s a) (known s b) b ≡ [] → Found s (If c a b)
  choice_found c condition none =
      let parts = append_none (misfit g kinds.Truth (known s c) c) (broken_if (have_no_common g (known s a) (known s b)) (at (place_of b) J10)) none in
      let apart : is_none (common g h.type j.type) ≡ false = (λ i. have_no_common g (sym h.is i) (sym j.is i)) ∙ not_broken (have_no_common g (known s a) (known s b)) (at (place_of b) J10) parts.1 in
      let found = some_there (common g h.type j.type) apart in
      record {
        type = found.0;
        is = (λ i. common_of g (h.is i) (j.is i)) ∙ found.1;
        typed = rules.choice h.type j.type found.0 (wanted_truth s c condition parts.0) h.typed j.typed found.1;
      }

-- what a member is declared to be
module _ (s : Scope) (name : List ℕ) (c : ClassId) where
  abbrev IsDeclared : member.Member → Type 0
  IsDeclared (members.Reads x) = Unit {0}
  IsDeclared (members.Calls a) = (d : Attr) × (declared_at s.known.attributes a.0 ≡ Some d)

  named_declared : (b : Bool) (a : ℕ) → (if b then attribute_named s.known.superclasses s.known.attributes c name else None) ≡ Some a → IsDeclared (calls a)
  named_declared true a e =
      let found = position_found (λ (x : Attribute). is_below s.known.superclasses c.0 x.declared.class.0 && bytes_eq x.name name) s.known.attributes a e in
      (found.0.declared, ap (option_map declared_of) found.1)
  named_declared false a e = absurd (cc)

  either_declared : (x : Option Accessor) (o : Option ℕ) (m : member.Member) → attribute_in s name c ≡ o → either_member x o ≡ Some m → IsDeclared m
  either_declared None None m is e = absurd (cc)
  either_declared None (Some a) m is e = let same : calls a ≡ m = cc in subst IsDeclared same (named_declared (nat_lt c.0 (length s.grammar)) a is)
  either_declared (Some x) o m is e = let same : members.Reads x ≡ m = cc in subst IsDeclared same tt

  member_declared : (n : ℕ) (m : member.Member) → member_of s name n c ≡ Some m → IsDeclared m
  member_declared n m e = either_declared (accessor_of s.grammar c.0 name n) (attribute_in s name c) m refl e

-- an accessor of no type reads a whole list
elements_only : (a : Access) (c : ClassId) → type_read a c ≡ None → a ≡ access.Elements
elements_only access.Child c e = absurd (cc)
elements_only (access.Token k) c e = absurd (cc)
elements_only access.Has c e = absurd (cc)
elements_only access.Count c e = absurd (cc)
elements_only access.Elements c e = refl
elements_only access.Element c e = absurd (cc)

no_arguments : {s : Scope} {es : Arguments} → Fit s es [] → es ≡ no_more
no_arguments rules.end = refl

only_range : (range l : Bool) → (not range && l) ≡ false → l ≡ true → range ≡ true
only_range true l none is = refl
only_range false l none is = absurd (cc)

-- calls on nodes of a class
module _ (s : Scope) (n : Name) (es : Arguments) where
  abbrev IsFitted : Type 0
  IsFitted = (ks : List Kind) → arguments_broken s ks es ≡ [] → length ks ≡ count es → Fit s es ks

  record CallFound (c : ClassId) : Type 0 where
    pub type : ValueType
    pub called : IsCalled s c n es type
    pub is : option_and_then (type_called s) (member_of s n.text (count es) c) ≡ Some type

  record ListFound (c : ClassId) : Type 0 where
    pub list : Accessor
    pub empty : es ≡ no_more
    pub is : member_of s n.text (count es) c ≡ Some (members.Reads list)
    pub read : list.access ≡ access.Elements

  read_found : (c : ClassId) (x : Accessor) → member_of s n.text (count es) c ≡ Some (members.Reads x) → Fit s es (arguments_of x.access) → (o : Option ValueType) → type_read x.access x.class ≡ o → CallFound c ⊎ ListFound c
  read_found c x is fit None e =
      let read = elements_only x.access x.class e in
      inr (record { list = x; empty = no_arguments (subst (λ a. Fit s es (arguments_of a)) read fit); is = is; read = read })
  read_found c x is fit (Some t) e = inl (record { type = t; called = rules.reads x t is e fit; is = ap (option_and_then (type_called s)) is ∙ e })

  -- a list may be called as a range alone
  abbrev Called : Bool → ClassId → Type 0
  Called range c = CallFound c ⊎ (ListFound c × (range ≡ true))

  as_range : (range : Bool) (c : ClassId) → CallFound c ⊎ ListFound c → ((l : ListFound c) → range ≡ true) → Called range c
  as_range range c (inl call) ranged = inl call
  as_range range c (inr l) ranged = inr (l, ranged l)

  meant_found : (range : Bool) (c : ClassId) (m : member.Member) → member_of s n.text (count es) c ≡ Some m → (not range && is_list m) ≡ false → Fit s es (arguments_wanted s m) → Called range c
  meant_found range c (members.Reads x) is list fit =
      as_range range c (read_found c x is fit (type_read x.access x.class) refl)
      (λ l.
      let same : Some (members.Reads x) ≡ Some (members.Reads l.list) = sym is ∙ l.is in
      let one : members.Reads x ≡ members.Reads l.list = cc in
      only_range range (is_list (members.Reads x)) list (ap is_list one ∙ ap is_elements l.read))
  meant_found range c (members.Calls a) is list fit =
      let declared = member_declared s n.text c (count es) (members.Calls a) is in
      inl (record {
        type = types.Of declared.0.kind;
        called = rules.calls a declared.0 is declared.1 (subst (λ o. Fit s es (kinds_declared o)) declared.1 fit);
        is = ap (option_and_then (type_called s)) is ∙ ap (option_map kind_declared) declared.1;
      })

  module _ (fit : IsFitted) where
    call_found : (range : Bool) (c : ClassId) (first : Place) (o : Option member.Member) → member_of s n.text (count es) c ≡ o → member_broken s range o n (count es) first ≡ [] → arguments_broken s (wanted_for s o (count es)) es ≡ [] → Called range c
    call_found range c first None is none inner = absurd (cc)
    call_found range c first (Some m) is none inner =
        let takes = length (arguments_wanted s m) == count es in
        let parts = append_none (broken_if (not takes) (at n.place J11)) (broken_if (not range && is_list m) (at first J10)) none in
        let all : takes ≡ true = not-false takes (not_broken (not takes) (at n.place J11) parts.0) in
        let wanted : wanted_for s (Some m) (count es) ≡ arguments_wanted s m = ap (λ b. if b then arguments_wanted s m else []) all in
        meant_found range c m is (not_broken (not range && is_list m) (at first J10) parts.1)
        (fit (arguments_wanted s m) (ap (λ ks. arguments_broken s ks es) (sym wanted) ∙ inner) (eqb-true (length (arguments_wanted s m)) (count es) all))

    class_found : (range : Bool) (first : Place) (o : Option ClassId) → on_class_broken s range n (count es) first o ≡ [] → arguments_broken s (wanted_for s (option_and_then (member_of s n.text (count es)) o) (count es)) es ≡ []
        → (c : ClassId) × (o ≡ Some c) × Called range c
    class_found range first None none inner = absurd (cc)
    class_found range first (Some c) none inner = (c, refl, call_found range c first (member_of s n.text (count es) c) refl none inner)

    -- what the call gives, where a list may stand or not
    abbrev Gives : Bool → Expr → Type 0
    Gives range e = Found s e ⊎ (Listed s e × (range ≡ true))

    module _ (e : Expr) (owner : Found s e) (c : ClassId) (is : class_in owner.type ≡ Some c) where
      of_that : IsTyped s e (of_class c)
      of_that = subst (IsTyped s e) (class_is owner.type c is) owner.typed

      meant_on : member_on s (known s e) n.text (count es) ≡ member_of s n.text (count es) c
      meant_on = ap (λ o. member_on s o n.text (count es)) owner.is ∙ ap (option_and_then (member_of s n.text (count es))) is

      member_gives : (range : Bool) → Called range c → Gives range (Member e n es)
      member_gives range (inl call) = inl (record { type = call.type; is = ap (option_and_then (type_called s)) meant_on ∙ call.is; typed = rules.member n c call.type of_that call.called })
      member_gives range (inr l) =
          let x = l.0.list in
          let here : member_of s n.text 0 c ≡ Some (members.Reads x) = ap (λ xs. member_of s n.text (count xs) c) (sym l.0.empty) ∙ l.0.is in
          inr (
            (record {
              list = x;
              untyped = ap (option_and_then (type_called s)) (meant_on ∙ l.0.is) ∙ ap (λ a. type_read a x.class) l.0.read;
              is = ap (option_and_then (list_called (count es))) (meant_on ∙ l.0.is) ∙ (λ i. if length (arguments_of (l.0.read i)) == count (l.0.empty i) then (if is_elements (l.0.read i) then Some x else None) else None);
              listed = subst (λ xs. IsList s (Member e n xs) x.class) (sym l.0.empty) (rules.listed n c x of_that here l.0.read);
            }),
            l.1,
          )

    member_found : (range : Bool) (e : Expr) → Found s e → call_broken s range n (count es) (place_of e) (known s e) ≡ [] → arguments_broken s (wanted_for s (member_on s (known s e) n.text (count es)) (count es)) es ≡ [] → Gives range (Member e n es)
    member_found range e owner none inner =
        let here = ap (call_broken s range n (count es) (place_of e)) (sym owner.is) ∙ none in
        let there = ap (λ o. arguments_broken s (wanted_for s (member_on s o n.text (count es)) (count es)) es) (sym owner.is) ∙ inner in
        let found = class_found range (place_of e) (class_in owner.type) here there in
        member_gives e owner found.0 found.1 range found.2

    module _ (free : form_named n.text ≡ None) where
      alone_gives : (range : Bool) → Called range s.this → Gives range (Call n es)
      alone_gives range (inl call) = inl (record {
        type = call.type;
        is = ap (λ o. type_alone s n (types_known s es) (count es) o) free ∙ call.is;
        typed = rules.alone n call.type (no_form n.text free) call.called;
      })
      alone_gives range (inr l) =
          let x = l.0.list in
          let here : member_of s n.text 0 s.this ≡ Some (members.Reads x) = ap (λ xs. member_of s n.text (count xs) s.this) (sym l.0.empty) ∙ l.0.is in
          inr (
            (record {
              list = x;
              untyped = ap (λ o. type_alone s n (types_known s es) (count es) o) free ∙ ap (option_and_then (type_called s)) l.0.is ∙ ap (λ a. type_read a x.class) l.0.read;
              is = ap (λ o. list_alone s n (count es) o) free ∙ ap (option_and_then (list_called (count es))) l.0.is ∙ (λ i. if length (arguments_of (l.0.read i)) == count (l.0.empty i) then (if is_elements (l.0.read i) then Some x else None) else None);
              listed = subst (λ xs. IsList s (Call n xs) x.class) (sym l.0.empty) (rules.listed_alone n x (no_form n.text free) here l.0.read);
            }),
            l.1,
          )

-- a form of sets has a type
record FormFound (s : Scope) (f : SetForm) (n : Name) (es : Arguments) : Type 0 where
  pub type : ValueType
  pub is : form_type s.grammar f (types_known s es) ≡ Some type
  pub typed : IsTyped s (Call n es) type

module _ (s : Scope) (n : Name) (a : Expr) (h : Found s a) where
  one_found : (f : SetForm) → IsForm n.text f → one_broken f n (known s a) a ≡ [] → FormFound s f n (argument a no_more)
  one_found (forms.Makes o) form none = absurd (cc)
  one_found forms.Single form none =
      let there : is_none (set_of h.type) ≡ false = ap has_no_sets (sym h.is) ∙ not_broken (has_no_sets (known s a)) (at (place_of a) J10) none in
      let found = some_there (set_of h.type) there in
      record { type = found.0; is = ap (option_and_then set_of) h.is ∙ found.1; typed = rules.single n h.type found.0 form h.typed found.1 }
  one_found forms.Contains form none = absurd (cc)
  one_found forms.Size form none = record { type = types.Of kinds.Int; is = refl; typed = rules.size n h.type form h.typed (set_there (known s a) a h.type h.is none) }

  module _ (b : Expr) (j : Found s b) where
    pair_found : (f : SetForm) → IsForm n.text f → pair_broken s.grammar f n (known s a) a (known s b) b ≡ [] → FormFound s f n (argument a (argument b no_more))
    pair_found (forms.Makes o) form none =
        let apart = broken_if (have_no_common s.grammar (set_known (known s a)) (set_known (known s b))) (at (place_of b) J10) in
        let parts = append_none (no_set (known s a) a) (no_set (known s b) b ++ apart) none in
        let rest = append_none (no_set (known s b) b) apart parts.1 in
        let first = set_there (known s a) a h.type h.is parts.0 in
        let second = set_there (known s b) b j.type j.is rest.0 in
        let left = set_is (known s a) h.type h.is first in
        let right = set_is (known s b) j.type j.is second in
        let there : is_none (common s.grammar h.type j.type) ≡ false = (λ i. have_no_common s.grammar (sym left i) (sym right i)) ∙ not_broken (have_no_common s.grammar (set_known (known s a)) (set_known (known s b))) (at (place_of b) J10) rest.1 in
        let found = some_there (common s.grammar h.type j.type) there in
        record { type = found.0; is = (λ i. common_of s.grammar (left i) (right i)) ∙ found.1; typed = rules.made n o h.type j.type found.0 form h.typed j.typed first second found.1 }
    pair_found forms.Single form none = absurd (cc)
    pair_found forms.Contains form none =
        let foreign = broken_if (is_foreign s.grammar (set_known (known s a)) (known s b)) (at (place_of b) J10) in
        let parts = append_none (no_set (known s a) a) foreign none in
        let left = set_is (known s a) h.type h.is (set_there (known s a) a h.type h.is parts.0) in
        let element = (λ i. is_foreign s.grammar (sym left i) (sym j.is i)) ∙ not_broken (is_foreign s.grammar (set_known (known s a)) (known s b)) (at (place_of b) J10) parts.1 in
        record { type = types.Of kinds.Truth; is = refl; typed = rules.contains n h.type j.type form h.typed j.typed (not-false (may_be_element s.grammar h.type j.type) element) }
    pair_found forms.Size form none = absurd (cc)

-- The elements over which a form goes.
abbrev Goes : Scope → Expr → Quantifier → Elements → Type 0
Goes s e q (elements.OfList x) = IsList s e x.class
Goes s e quantifiers.Each (elements.OfSet k) = GoesOver s e k
Goes s e quantifiers.Any (elements.OfSet k) = GoesOver s e k
Goes s e quantifiers.All (elements.OfSet k) = GoesOver s e k
Goes s e quantifiers.First (elements.OfSet k) = ⊥

record RangeFound (s : Scope) (q : Quantifier) (e : Expr) : Type 0 where
  pub over : Elements
  pub is : range_of s q e ≡ Some over
  pub goes : Goes s e q over

module _ (s : Scope) (e : Expr) where
  kind_there : (o : Option Kind) → is_none (option_map elements.OfSet o) ≡ false → (k : Kind) × (o ≡ Some k)
  kind_there None e = absurd (cc)
  kind_there (Some k) e = (k, refl)

  set_goes : (q : Quantifier) (t : ValueType) → IsTyped s e t → is_none (set_over q t) ≡ false → (over : Elements) × (set_over q t ≡ Some over) × Goes s e q over
  set_goes quantifiers.Each t typed some = let found = kind_there (elements_of t) some in (elements.OfSet found.0, ap (option_map elements.OfSet) found.1, rules.set t found.0 typed found.1)
  set_goes quantifiers.Any t typed some = let found = kind_there (elements_of t) some in (elements.OfSet found.0, ap (option_map elements.OfSet) found.1, rules.set t found.0 typed found.1)
  set_goes quantifiers.All t typed some = let found = kind_there (elements_of t) some in (elements.OfSet found.0, ap (option_map elements.OfSet) found.1, rules.set t found.0 typed found.1)
  set_goes quantifiers.First t typed some = absurd (cc)

  list_goes : (q : Quantifier) (x : Accessor) → IsList s e x.class → Goes s e q (elements.OfList x)
  list_goes quantifiers.Each x l = l
  list_goes quantifiers.Any x l = l
  list_goes quantifiers.All x l = l
  list_goes quantifiers.First x l = l

  range_found : (q : Quantifier) → Found s e ⊎ Listed s e → no_range q (known s e) e ≡ [] → RangeFound s q e
  range_found q (inl h) none =
      let some : is_none (set_over q h.type) ≡ false = ap (has_no_elements q) (sym h.is) ∙ not_broken (has_no_elements q (known s e)) (at (place_of e) J10) none in
      let found = set_goes q h.type h.typed some in
      record { over = found.0; is = ap (elements_over q (list_of s e)) h.is ∙ found.1; goes = found.2 }
  range_found q (inr l) none = record { over = elements.OfList l.list; is = (λ i. elements_over q (l.is i) (l.untyped i)); goes = list_goes q l.list l.listed }

-- forms over some elements
module _ (s : Scope) (p : Place) (n : Name) (r e : Expr) where
  goes_over : (q : Quantifier) (over : Elements) → (q ≡ quantifiers.First → ⊥) → Goes s r q over → GoesOver s r (element_kind over)
  goes_over quantifiers.Each (elements.OfList x) other l = rules.list x.class l
  goes_over quantifiers.Each (elements.OfSet k) other goes = goes
  goes_over quantifiers.Any (elements.OfList x) other l = rules.list x.class l
  goes_over quantifiers.Any (elements.OfSet k) other goes = goes
  goes_over quantifiers.All (elements.OfList x) other l = rules.list x.class l
  goes_over quantifiers.All (elements.OfSet k) other goes = goes
  goes_over quantifiers.First over other goes = absurd (other refl)

  abbrev inner : Elements → Scope
  inner over = with_element s n (element_kind over)

  -- a condition is a truth value
  condition : (over : Elements) (t : ValueType) → IsTyped (inner over) e t → misfit s.grammar kinds.Truth (Some t) e ≡ [] → IsTyped (inner over) e (types.Of kinds.Truth)
  condition over t typed none = subst (IsTyped (inner over) e) (truth_is t (fitting s.grammar (Some t) t e refl kinds.Truth none)) typed

  abbrev OverFound : Quantifier → Elements → ValueType → Type 0
  OverFound q over t = (u : ValueType) × (quantified_type q (Some over) (Some t) ≡ Some u) × IsTyped s (Quantified q p n r e) u

  over_found : (q : Quantifier) (over : Elements) (t : ValueType) → Goes s r q over → IsTyped (inner over) e t → body_misfit s.grammar q (Some t) e ≡ [] → OverFound q over t
  over_found quantifiers.Each over t goes typed none =
      let set = set_there (Some t) e t refl none in
      (t, set_is (Some t) t refl set, rules.each p n (element_kind over) t (goes_over quantifiers.Each over (λ never. absurd (cc)) goes) typed set)
  over_found quantifiers.Any over t goes typed none =
      (types.Of kinds.Truth, refl, rules.asked quantifiers.Any p n (element_kind over) rules.any (goes_over quantifiers.Any over (λ never. absurd (cc)) goes) (condition over t typed none))
  over_found quantifiers.All over t goes typed none =
      (types.Of kinds.Truth, refl, rules.asked quantifiers.All p n (element_kind over) rules.all (goes_over quantifiers.All over (λ never. absurd (cc)) goes) (condition over t typed none))
  over_found quantifiers.First (elements.OfList x) t l typed none = (of_class x.class, refl, rules.first p n x.class l (condition (elements.OfList x) t typed none))
  over_found quantifiers.First (elements.OfSet k) t goes typed none = absurd goes

  inside_is : (q : Quantifier) (over : Elements) → range_of s q r ≡ Some over → inside s q n r ≡ inner over
  inside_is q over is = ap (λ o. with_variable s (element_named n o)) is

  inside_known : (q : Quantifier) (over : Elements) → range_of s q r ≡ Some over → NamesAreKnown s → NamesAreKnown (inside s q n r)
  inside_known q over is all = subst NamesAreKnown (sym (inside_is q over is)) (All-cons (λ (v : Variable). IsSome v.type) (record { name = n.text; type = Some (types.Of (element_kind over)) }) s.variables refl all)

  quantified_found : (q : Quantifier) (range : RangeFound s q r) → Found (inside s q n r) e → body_misfit s.grammar q (known (inside s q n r) e) e ≡ [] → Found s (Quantified q p n r e)
  quantified_found q range body none =
      let typed = subst (λ i. IsTyped i e body.type) (inside_is q range.over range.is) body.typed in
      let found = over_found q range.over body.type range.goes typed (ap (λ o. body_misfit s.grammar q o e) (sym body.is) ∙ none) in
      record { type = found.0; is = (λ i. quantified_type q (range.is i) (body.is i)) ∙ found.1; typed = found.2 }

-- what is given where a list may stand or not
placed : (s : Scope) (e : Expr) (w : Stands) → Found s e ⊎ (Listed s e × (is_range w ≡ true)) → Good s e w
placed s e w (inl h) = good w h
placed s e Anywhere (inr l) = absurd (cc)
placed s e Negated (inr l) = absurd (cc)
placed s e Range (inr l) = inr l.0

literal_good : (s : Scope) (w : Stands) (p : Place) (n : ℕ) → broken_if (nat_lt (greatest w) n) (at p J17) ≡ [] → Good s (Int p n) w
literal_good s Anywhere p n none =
    let within : n ≤ 2147483647 = ltb-false 2147483647 n (not_broken (nat_lt 2147483647 n) (at p J17) none) in
    record { type = types.Of kinds.Int; is = refl; typed = rules.literal p n within }
literal_good s Negated p n none =
    let within : n ≤ 2147483648 = ltb-false 2147483648 n (not_broken (nat_lt 2147483648 n) (at p J17) none) in
    inr (record { place = p; number = n; is = refl; within = within })
literal_good s Range p n none =
    let within : n ≤ 2147483647 = ltb-false 2147483647 n (not_broken (nat_lt 2147483647 n) (at p J17) none) in
    inl (record { type = types.Of kinds.Int; is = refl; typed = rules.literal p n within })

variable_found : (s : Scope) → NamesAreKnown s → (n : Name) → is_none (variable_named s n.text) ≡ false → Found s (Named n)
variable_found s all n some = let found = meant s.variables n.text all some in record { type = found.type; is = found.is; typed = rules.variable n found.type found.means }

-- a call without receiver
module _ (s : Scope) (n : Name) (es : Arguments) (fit : IsFitted s n es) (formed : (f : SetForm) → IsForm n.text f → arguments_broken s [] es ≡ [] → form_broken s f n es ≡ [] → FormFound s f n es) where
  alone_found : (range : Bool) (o : Option SetForm) → form_named n.text ≡ o → alone_broken s range n es (arguments_broken s (wanted_alone s n (count es) o) es) o ≡ [] → Gives s n es fit range (Call n es)
  alone_found range None is none =
      let parts = append_none (call_broken s range n (count es) n.place (Some (of_class s.this))) (arguments_broken s (wanted_for s (member_on s (Some (of_class s.this)) n.text (count es)) (count es)) es) none in
      alone_gives s n es fit is range (call_found s n es fit range s.this n.place (member_of s n.text (count es) s.this) refl parts.0 parts.1)
  alone_found range (Some f) is none =
      let parts = append_none (arguments_broken s [] es) (form_broken s f n es) none in
      let found = formed f (form_from n.text f is) parts.0 parts.1 in
      inl (record { type = found.type; is = ap (λ o. type_alone s n (types_known s es) (count es) o) is ∙ found.is; typed = found.typed })

mutual
  -- what breaks nothing where it stands, has a type, or is what may stand there alone
  found : (s : Scope) → NamesAreKnown s → (e : Expr) (w : Stands) → expr_broken s w e ≡ [] → Good s e w
  found s all (Truth p b) w none = good w (record { type = types.Of kinds.Truth; is = refl; typed = rules.truth p b })
  found s all (Null p) w none = good w (record { type = types.Null; is = refl; typed = rules.null p })
  found s all (Empty p) w none = good w (record { type = types.Empty; is = refl; typed = rules.empty p })
  found s all (This p) w none = good w (record { type = of_class s.this; is = refl; typed = rules.this p })
  found s all (Int p n) w none = literal_good s w p n none
  found s all (Text p n) w none = good w (record { type = types.Of kinds.Text; is = refl; typed = rules.text p n })
  found s all (Source p n) w none = absurd (cc)
  found s all (Named n) w none = good w (variable_found s all n (not_broken (is_none (variable_named s n.text)) (at n.place J9) none))
  found s all (Call n es) w none =
      placed s (Call n es) w
      (alone_found s n es (λ ks inner many. fitted s all es ks inner many) (λ f form inner none. formed s all f n es form inner none) (is_range w) (form_named n.text) refl none)
  found s all (Member e n es) w none =
      let wanted = wanted_for s (member_on s (known s e) n.text (count es)) (count es) in
      let call = call_broken s (is_range w) n (count es) (place_of e) (known s e) in
      let parts = append_none (expr_broken s Anywhere e) (call ++ arguments_broken s wanted es) none in
      let rest = append_none call (arguments_broken s wanted es) parts.1 in
      placed s (Member e n es) w (member_found s n es (λ ks inner many. fitted s all es ks inner many) (is_range w) e (found s all e Anywhere parts.0) rest.0 rest.1)
  found s all (New p n es) w none = absurd (cc)
  found s all (Quantified q p n r e) w none =
      let fit = body_misfit s.grammar q (known (inside s q n r) e) e in
      let parts = append_none (expr_broken s Range r ++ no_range q (known s r) r) (expr_broken (inside s q n r) Anywhere e ++ fit) none in
      let first = append_none (expr_broken s Range r) (no_range q (known s r) r) parts.0 in
      let last = append_none (expr_broken (inside s q n r) Anywhere e) fit parts.1 in
      let range = range_found s r q (found s all r Range first.0) first.1 in
      let body = found (inside s q n r) (inside_known s p n r e q range.over range.is all) e Anywhere last.0 in
      good w (quantified_found s p n r e q range body last.1)
  found s all (Group p e) w none = let h = found s all e Anywhere none in good w (record { type = h.type; is = h.is; typed = rules.group p h.type h.typed })
  found s all (Cast p n e) w none =
      let node = no_node (known s e) e in
      let parts = append_none (class_broken s.grammar n) (expr_broken s Anywhere e ++ node) none in
      let rest = append_none (expr_broken s Anywhere e) node parts.1 in
      good w (cast_found s e (found s all e Anywhere rest.0) p n parts.0 rest.1)
  found s all (Not p e) w none =
      let parts = append_none (expr_broken s Anywhere e) (misfit s.grammar kinds.Truth (known s e) e) none in
      good w (record { type = types.Of kinds.Truth; is = refl; typed = rules.not p (wanted_truth s e (found s all e Anywhere parts.0) parts.1) })
  found s all (Negate p e) w none =
      let parts = append_none (expr_broken s Negated e) (misfit s.grammar kinds.Int (known s e) e) none in
      good w (negate_found s p e (found s all e Negated parts.0) parts.1)
  found s all (Binary o a b) w none =
      let sides = sides_broken s.grammar o (known s a) a (known s b) b in
      let parts = append_none (expr_broken s Anywhere a) (expr_broken s Anywhere b ++ sides) none in
      let rest = append_none (expr_broken s Anywhere b) sides parts.1 in
      good w (binary_found s a b (found s all a Anywhere parts.0) (found s all b Anywhere rest.0) o rest.1)
  found s all (InstanceOf e n) w none =
      let node = no_node (known s e) e in
      let parts = append_none (class_broken s.grammar n) (expr_broken s Anywhere e ++ node) none in
      let rest = append_none (expr_broken s Anywhere e) node parts.1 in
      good w (test_found s e (found s all e Anywhere rest.0) n parts.0 rest.1)
  found s all (If c a b) w none =
      let choice = choice_broken s.grammar (known s c) c (known s a) (known s b) b in
      let parts = append_none (expr_broken s Anywhere c) (expr_broken s Anywhere a ++ (expr_broken s Anywhere b ++ choice)) none in
      let rest = append_none (expr_broken s Anywhere a) (expr_broken s Anywhere b ++ choice) parts.1 in
      let last = append_none (expr_broken s Anywhere b) choice rest.1 in
      good w (choice_found s a b (found s all a Anywhere rest.0) (found s all b Anywhere last.0) c (found s all c Anywhere parts.0) last.1)

  -- one of the forms of sets
  formed : (s : Scope) → NamesAreKnown s → (f : SetForm) (n : Name) (es : Arguments) → IsForm n.text f → arguments_broken s [] es ≡ [] → form_broken s f n es ≡ [] → FormFound s f n es
  formed s all f n no_more form inner none = absurd (cc)
  formed s all f n (argument a no_more) form inner none =
      let first = append_none (expr_broken s Anywhere a) [] inner in
      one_found s n a (found s all a Anywhere first.0) f form none
  formed s all f n (argument a (argument b no_more)) form inner none =
      let first = append_none (expr_broken s Anywhere a) (expr_broken s Anywhere b ++ []) inner in
      let second = append_none (expr_broken s Anywhere b) [] first.1 in
      pair_found s n a (found s all a Anywhere first.0) b (found s all b Anywhere second.0) f form none
  formed s all f n (argument a (argument b (argument c es))) form inner none = absurd (cc)

  -- the arguments of a call, which are as many as are wanted
  fitted : (s : Scope) → NamesAreKnown s → (es : Arguments) (ks : List Kind) → arguments_broken s ks es ≡ [] → length ks ≡ count es → Fit s es ks
  fitted s all no_more [] none many = rules.end
  fitted s all no_more (k ∷ ks) none many = absurd (omega (arith, many))
  fitted s all (argument e es) [] none many = absurd (omega (arith, many))
  fitted s all (argument e es) (k ∷ ks) none many =
      let parts = append_none (expr_broken s Anywhere e) (misfit s.grammar k (known s e) e ++ arguments_broken s ks es) none in
      let rest = append_none (misfit s.grammar k (known s e) e) (arguments_broken s ks es) parts.1 in
      let first = found s all e Anywhere parts.0 in
      rules.more first.type first.typed (fitting s.grammar (known s e) first.type e first.is k rest.0) (fitted s all es ks rest.1 (omega (arith, many)))

-- an expression that breaks nothing has a type
pub type_found : (s : Scope) → NamesAreKnown s → (e : Expr) → expr_broken s Anywhere e ≡ [] → Found s e
type_found s all e none = found s all e Anywhere none
