-- A well typed expression demands instances of its program alone, and its value is of its type.
use Rattle.std.proofs.Common.{◌≡◌, ℕ, zero, suc, ℤ, pos, negsuc, neg_ℤ, Bool, true, false, not, cond, ◌&&◌, ◌||◌, List, [], ◌∷◌, ◌++◌, map, Contains, Option, Some, None, length, slice_get, refl, sym, ap, subst}
use Rattle.std.specs.Int.{int_wrap}
use Rattle.std.specs.List.{range_with_len}
use Rattle.std.specs.Option.{option_map}
use Rattle.std.proofs.lemmas.Option.{slice_get_within}
use mir.Syntax.{w32}
use Rattle.ast_grammar.specs.declared.grammar.ClassId.{ClassId}
use Rattle.ast_grammar.specs.declared.grammar.Shape.{Shape}
use Rattle.ast_grammar.specs.declared.grammar.Shape.TheVariants as shapes
use Rattle.ast_grammar.specs.Grammar.{Class, Component, component_at, is_sub}
use Rattle.ast_grammar.proofs.Inherited.{inherited_component}
use Rattle.attr_rules.specs.declared.accessors.Access.TheVariants as access
use Rattle.attr_rules.specs.declared.expression.Operator.{Operator}
use Rattle.attr_rules.specs.declared.expression.Operator.TheVariants.{Equal}
use Rattle.attr_rules.specs.declared.expression.Quantifier.{Quantifier}
use Rattle.attr_rules.specs.declared.expression.Quantifier.TheVariants.{Any, All, First}
use Rattle.attr_rules.specs.declared.expression.SetOperator.TheVariants.{Union}
use Rattle.attr_rules.specs.declared.kinds.Attr.{Attr}
use Rattle.attr_rules.specs.declared.kinds.Kind.{Kind}
use Rattle.attr_rules.specs.declared.kinds.Kind.TheVariants as kinds
use Rattle.attr_rules.specs.declared.types.ValueType.{ValueType}
use Rattle.attr_rules.specs.declared.types.ValueType.TheVariants as types
use Rattle.attr_rules.specs.Accessors.{got}
use Rattle.attr_rules.specs.Expression.{Arguments, Expression, NewArguments}
use Rattle.attr_rules.specs.Rules.{circular_at, is_single}
use Rattle.attr_rules.specs.Types.{common, fits, is_below, is_set, kept_kind, of_class, of_nodes, parameter_kinds}
use Rattle.attr_rules.specs.Typing.{Fit, FitComponents, HasType, Names, TakesInts, quantified_type, takes_sets, with_variable}
use Rattle.attr_rules.specs.Typing as typed
use Rattle.solutions.specs.Asking.{Demands, Gives, Needs, next}
use Rattle.tree_arena.specs.Nodes.{Node as TreeNode, child_in, token_in}
use Rattle.equation_law.specs.Checked.{AreArguments, AreTokens, IsAt, IsInstance, IsNode, IsNodeAt, IsNodeOf, IsProgram, at, null, of_attribute}
use Rattle.equation_law.specs.Created.{making_in, token_kinds}
use Rattle.equation_law.specs.Equations.{argument_or_null, attribute_kind, child_of, count_of, decoded, element_of, kind_or_truth, made_or_null, source_of, source_or_null, token_place, token_value, where_made, world_of}
use Rattle.equation_law.specs.Meaning.{Place, at_each, call_at, cast_to, child_at, count_at, element_at, elements_at, first_with, is_instance, is_there, meaning_of, named, operate, over_elements, token_at, united, with_arguments, with_name, with_tokens}
use Rattle.equation_law.specs.Names.{Argument, At, Attribute, Instance, Made, NodeName, Null, OfInt, OfNode, OfText, OfTruth, Reference, Row, Source, list_of}
use Rattle.equation_law.specs.Program.{Program, class_at, declared_of, kinds_or_none, making_of, text_of, tree_made}
use Rattle.equation_law.specs.Values.{Value, Truth, Int, Node, argument_value, as_argument, as_arguments, as_kind, contains, default_of, elements_of, int, node, set_operate, single, size_of, tokens, truth}
use Rattle.equation_law.proofs.Among.{Among, HasInside}
use Rattle.equation_law.proofs.Created.{are_arguments, at_class_below, child_made, value_argument}
use Rattle.equation_law.proofs.Lists.{some_of}
use Rattle.equation_law.proofs.Preordered.{child_below}
use Rattle.equation_law.proofs.TypedValues.{AreOf, IsOf, IsRefOf, argument_of, common_left, common_right, common_set, default_set, elements_keep, fitting, no_nodes, node_above, null_ref, of_int, of_node, of_null, of_text, of_truth, on_any, on_node, sets_keep, single_keeps}

module _ (p : Program) where
  -- a node of a class, as a reference to it
  pub node_at : (c : ClassId) (n : NodeName) → IsNodeOf p c (At n) → IsNodeAt p n c
  node_at c n (at h) = h

  pub node_there : (c : ClassId) (n : NodeName) → IsNodeOf p c (At n) → IsNode p n
  node_there c n h = (node_at c n h).there

  -- a source node
  pub source_there : (k : ℕ) (c : ClassId) → IsAt p k c → IsNodeAt p (Source k) c
  source_there k c h =
      let found = some_of (λ (x : TreeNode). x.class) (slice_get p.tree k) h.class h.of in
      record { there = slice_get_within p.tree k found.0 found.1; class = h.class; of = h.of; below = h.below }

-- a truth value, an integer or a text
abbrev is_plain : Kind → Bool
is_plain kinds.Truth = true
is_plain kinds.Int = true
is_plain kinds.Text = true
is_plain (kinds.Node c) = false
is_plain kinds.Texts = false
is_plain (kinds.Nodes c) = false

-- the tokens that are read are truth values, integers or texts
token_plain : (s : Shape) (t : Kind) → got s ≡ Some (access.Token t) → is_plain t ≡ true
token_plain shapes.Child t e = cc
token_plain shapes.List t e = cc
token_plain shapes.Optional t e = cc
token_plain shapes.Text t e = let same : kinds.Text ≡ t = cc in ap is_plain (sym same)
token_plain shapes.Int t e = let same : kinds.Int ≡ t = cc in ap is_plain (sym same)
token_plain shapes.Truth t e = let same : kinds.Truth ≡ t = cc in ap is_plain (sym same)

-- which are no sets
plain_single : (t : Kind) → is_plain t ≡ true → is_single t ≡ true
plain_single kinds.Truth e = refl
plain_single kinds.Int e = refl
plain_single kinds.Text e = refl
plain_single (kinds.Node c) e = cc
plain_single kinds.Texts e = cc
plain_single (kinds.Nodes c) e = cc

-- the names of an expression at a place are those of the program, and stand for values of their types
pub record AreNames (p : Program) (U : Among) (N : Names) (q : Place) : Type 0 where
  pub grammar : N.grammar ≡ p.grammar
  pub attribute : (a : ℕ) (d : Attr) → N.attribute a ≡ Some d → declared_of p a ≡ Some d
  pub node : (k : ℕ) (c : ClassId) → N.node k ≡ Some c → IsAt p k c
  pub this : (c : ClassId) → N.this ≡ Some c → IsRefOf p U c q.this
  pub variables : (k : ℕ) (t : Kind) → slice_get N.variables k ≡ Some t → IsOf p U (types.Of t) (named q.names k)

-- a well typed expression is no `new`
pub no_making : {N : Names} {e : Expression} {t : ValueType} → HasType N e t → making_in e ≡ None
no_making (typed.truth b) = refl
no_making (typed.int z w) = refl
no_making (typed.text k) = refl
no_making typed.null = refl
no_making typed.empty = refl
no_making (typed.this c e) = refl
no_making (typed.variable k t e) = refl
no_making (typed.source k c e) = refl
no_making (typed.child c k x h s g) = refl
no_making (typed.element c k x h s g j) = refl
no_making (typed.count c k x h s g) = refl
no_making (typed.has c k x h s g) = refl
no_making (typed.token c k x t h s g) = refl
no_making (typed.call c a place d h s b fit) = refl
no_making (typed.cast t c h n w) = refl
no_making (typed.instance_of t c h n w) = refl
no_making (typed.quantified q c k x h s g f) = refl
no_making (typed.quantified_set q t k w h s f) = refl
no_making (typed.each y c k x u h s g f w same) = refl
no_making (typed.each_of_set y t k u h s f w same) = refl
no_making (typed.sets o y t u w g h s c same) = refl
no_making (typed.single t u h s) = refl
no_making (typed.contains t u g h w) = refl
no_making (typed.size t h s) = refl
no_making (typed.not h) = refl
no_making (typed.negate h) = refl
no_making (typed.ints o k q g h) = refl
no_making (typed.equal t u g h q) = refl
no_making (typed.and g h) = refl
no_making (typed.or g h) = refl
no_making (typed.or_both g h) = refl
no_making (typed.choice place t u w f g h e) = refl

-- a name more
module _ (p : Program) (U : Among) where
  variable_more : (ts : List Kind) (vs : List Value) (t : Kind) (v : Value) → IsOf p U (types.Of t) v → ((k : ℕ) (u : Kind) → slice_get ts k ≡ Some u → IsOf p U (types.Of u) (named vs k))
      → (k : ℕ) (u : Kind) → slice_get (t ∷ ts) k ≡ Some u → IsOf p U (types.Of u) (named (v ∷ vs) k)
  variable_more ts vs t v is all zero u e = let same : t ≡ u = cc in subst (λ (x : Kind). IsOf p U (types.Of x) v) same is
  variable_more ts vs t v is all (suc k) u e = all k u e

  names_more : (N : Names) (q : Place) (t : Kind) (v : Value) → IsOf p U (types.Of t) v → AreNames p U N q → AreNames p U (with_variable N t) (with_name q v)
  names_more N q t v is names = record {
    grammar = names.grammar;
    attribute = names.attribute;
    node = names.node;
    this = names.this;
    variables = variable_more N.variables q.names t v is names.variables;
  }

-- none of some types is a set
abbrev pub AreSingle : List Kind → Type 0
AreSingle [] = Unit {0}
AreSingle (k ∷ ks) = (is_single k ≡ true) × AreSingle ks

-- the value of a token is among some, where it is an integer or a text
abbrev pub IsTokenIn : Among → Argument → Type 0
IsTokenIn U (OfTruth b) = Unit {0}
IsTokenIn U (OfInt z) = U.ints z
IsTokenIn U (OfText t) = U.texts t
IsTokenIn U (OfNode r) = Unit {0}

abbrev pub AreTokensIn : Among → List Argument → Type 0
AreTokensIn U [] = Unit {0}
AreTokensIn U (x ∷ xs) = IsTokenIn U x × AreTokensIn U xs

-- one of them
token_in_tree : (U : Among) (ts : List Argument) (k : ℕ) (x : Argument) → AreTokensIn U ts → slice_get ts k ≡ Some x → IsTokenIn U x
token_in_tree U [] k x are e = absurd (cc)
token_in_tree U (y ∷ ts) zero x are e = let same : y ≡ x = cc in subst (IsTokenIn U) same are.0
token_in_tree U (y ∷ ts) (suc k) x are e = token_in_tree U ts k x are.1 e

-- What is demanded are instances, and what comes of all demands is of a type, as long as each value that is demanded is admitted.
module _ (p : Program) (U : Among) (M : Instance → Value → Type 0) where
  abbrev pub KeepsAll : (Value → Type 0) → Demands Instance Value → Type 0
  KeepsAll P (Gives v) = P v
  KeepsAll P (Needs i f) = IsInstance p i × ((v : Value) → M i v → KeepsAll P (f v))

  abbrev pub Keeps : ValueType → Demands Instance Value → Type 0
  Keeps t c = KeepsAll (IsOf p U t) c

  -- one after the other
  pub all_behind : (P Q : Value → Type 0) (c : Demands Instance Value) (f : Value → Demands Instance Value) → KeepsAll P c → ((v : Value) → P v → KeepsAll Q (f v)) → KeepsAll Q (next c f)
  all_behind P Q (Gives v) f h g = g v h
  all_behind P Q (Needs i e) f h g = (h.0, λ v m. all_behind P Q (e v) f (h.1 v m) g)

  pub behind : (t u : ValueType) (c : Demands Instance Value) (f : Value → Demands Instance Value) → Keeps t c → ((v : Value) → IsOf p U t v → Keeps u (f v)) → Keeps u (next c f)
  behind t u c f h g = all_behind (IsOf p U t) (IsOf p U u) c f h g

  -- what is of a type is of one that has all its values
  widened : (P Q : Value → Type 0) (c : Demands Instance Value) → ((v : Value) → P v → Q v) → KeepsAll P c → KeepsAll Q c
  widened P Q (Gives v) g h = g v h
  widened P Q (Needs i f) g h = (h.0, λ v m. widened P Q (f v) g (h.1 v m))

  -- one of two
  one_of : (t : ValueType) (c d : Demands Instance Value) (b : Bool) → Keeps t c → Keeps t d → Keeps t (cond b c d)
  one_of t c d true m n = m
  one_of t c d false m n = n

  -- the integers and texts that expressions make are of these, and so are admitted values of attributes that are read
  pub record AreBounds : Type 0 where
    pub literal : (z : ℤ) → int_wrap w32 z ≡ z → U.ints z
    pub wrapped : (z : ℤ) → U.ints (int_wrap w32 z)
    pub text : (n : ℕ) → U.texts (text_of p n)
    pub empty : U.texts []
    pub parameters : (a : ℕ) (d : Attr) → declared_of p a ≡ Some d → AreSingle (parameter_kinds d.params)
    pub read : (a : ℕ) (d : Attr) (r : Reference) (xs : List Argument) (v : Value) → declared_of p a ≡ Some d → M (Attribute a r xs) v → IsOf p U (types.Of d.kind) (as_kind d.kind v)
    -- so are the values of tokens, and all that stands inside a node
    pub tokens : (i : Instance) (v : Value) → M i v → AreTokensIn U (tokens v)
    pub inside : HasInside p U.nodes
    -- they are values
    pub int_value : (z : ℤ) → U.ints z → int_wrap w32 z ≡ z
    pub text_value : (t : List ℕ) → U.texts t → Contains p.texts t
    pub value_text : (t : List ℕ) → Contains p.texts t → U.texts t

-- nothing is an integer of 32 bits
zero_wrapped : int_wrap w32 (pos 0) ≡ pos 0
unfolding int_wrap
zero_wrapped = refl

module _ (p : Program) (U : Among) (M : Instance → Value → Type 0) (bounds : AreBounds p U M) where
  -- the default of a type
  pub default_keeps : (k : Kind) → IsOf p U (types.Of k) (default_of k)
  default_keeps kinds.Truth = of_truth false
  default_keeps kinds.Int = of_int (pos 0) (bounds.literal (pos 0) zero_wrapped)
  default_keeps kinds.Text = of_text [] bounds.empty
  default_keeps (kinds.Node c) = of_node c Null (null_ref p U c)
  default_keeps kinds.Texts = default_set p U (types.Of kinds.Texts) refl
  default_keeps (kinds.Nodes c) = default_set p U (of_nodes c) refl

  -- a token
  decoded_keeps : (k : Kind) (o : Option ℕ) → is_plain k ≡ true → IsOf p U (types.Of k) (decoded (text_of p) k o)
  decoded_keeps k None e = default_keeps k
  decoded_keeps kinds.Truth (Some v) e = of_truth _
  decoded_keeps kinds.Int (Some v) e = of_int _ (bounds.wrapped (pos v))
  decoded_keeps kinds.Text (Some v) e = of_text _ (bounds.text v)
  decoded_keeps (kinds.Node c) (Some v) e = cc
  decoded_keeps kinds.Texts (Some v) e = cc
  decoded_keeps (kinds.Nodes c) (Some v) e = cc

  -- the value of a token of a tree that was made, read at such a type
  argument_keeps : (t : Kind) (x : Argument) → is_plain t ≡ true → IsTokenIn U x → IsOf p U (types.Of t) (as_kind t (argument_value x))
  argument_keeps kinds.Truth x e h = of_truth _
  argument_keeps kinds.Int (OfTruth b) e h = default_keeps kinds.Int
  argument_keeps kinds.Int (OfInt z) e h = of_int z h
  argument_keeps kinds.Int (OfText s) e h = default_keeps kinds.Int
  argument_keeps kinds.Int (OfNode r) e h = default_keeps kinds.Int
  argument_keeps kinds.Text (OfTruth b) e h = default_keeps kinds.Text
  argument_keeps kinds.Text (OfInt z) e h = default_keeps kinds.Text
  argument_keeps kinds.Text (OfText s) e h = of_text s h
  argument_keeps kinds.Text (OfNode r) e h = default_keeps kinds.Text
  argument_keeps (kinds.Node c) x e h = cc
  argument_keeps kinds.Texts x e h = cc
  argument_keeps (kinds.Nodes c) x e h = cc

  no_argument_keeps : (t : Kind) → is_plain t ≡ true → IsOf p U (types.Of t) (as_kind t (Node Null))
  no_argument_keeps kinds.Truth e = of_truth _
  no_argument_keeps kinds.Int e = default_keeps kinds.Int
  no_argument_keeps kinds.Text e = default_keeps kinds.Text
  no_argument_keeps (kinds.Node c) e = cc
  no_argument_keeps kinds.Texts e = cc
  no_argument_keeps (kinds.Nodes c) e = cc

  value_keeps : (t : Kind) (ts : List Argument) (o : Option ℕ) → is_plain t ≡ true → AreTokensIn U ts → IsOf p U (types.Of t) (as_kind t (token_value ts o))
  value_keeps t ts None e are = no_argument_keeps t e
  value_keeps t ts (Some k) e are = elim (slice_get ts k) as (λ y. slice_get ts k ≡ y → IsOf p U (types.Of t) (as_kind t (argument_or_null y))) [
    | None ↦ λ none. no_argument_keeps t e
    | Some x ↦ λ is. argument_keeps t x e (token_in_tree U ts k x are is)
  ] refl

  -- what made a node is an instance
  maker_instance : (a : ℕ) (r : Reference) (xs : Row) (q : ℕ) → IsNode p (Made a r xs q) → IsInstance p (Attribute a r (list_of xs))
  maker_instance a Null xs q h = absurd h.3
  maker_instance a (At n) xs q h = of_attribute h.0 h.1 (at_class_below p n h.0.class h.3) (are_arguments p (parameter_kinds h.0.params) xs h.4)

  -- what is had of a node that was made, or another
  either_made : (t : ValueType) (o : Option ClassId) (c d : Demands Instance Value) → Keeps p U M t c → Keeps p U M t d → Keeps p U M t (where_made o c d)
  either_made t None c d h g = g
  either_made t (Some k) c d h g = h

  token_keeps : (c : ClassId) (t : Kind) (k : ℕ) (r : Reference) → is_plain t ≡ true → IsRefOf p U c r → Keeps p U M (types.Of t) (token_at (world_of p) t k r)
  token_keeps c t k Null e h = default_keeps t
  token_keeps c t k (At (Source n)) e h = decoded_keeps t (token_in p.tree n k) e
  token_keeps c t k (At (Made a r xs q)) e h =
      let value = Needs (Attribute a r (list_of xs)) (λ v. Gives (as_kind t (token_value (tokens v) (token_place (making_of p a r) q k)))) in
      either_made (types.Of t) (class_at p (Made a r xs q)) (cond (circular_at p.rules.attributes a) (Gives (default_of t)) value) (Gives (default_of t))
      (one_of p U M (types.Of t) (Gives (default_of t)) value (circular_at p.rules.attributes a) (default_keeps t)
      (maker_instance a r xs q (node_there p c (Made a r xs q) h.0), λ v m. value_keeps t (tokens v) (token_place (making_of p a r) q k) e (bounds.tokens (Attribute a r (list_of xs)) v m)))
      (default_keeps t)

  -- the length of a list
  count_keeps : (k : ℕ) (r : Reference) → IsOf p U (types.Of kinds.Int) (Int (count_at (world_of p) k r))
  count_keeps k Null = of_int (pos 0) (bounds.literal (pos 0) zero_wrapped)
  count_keeps k (At n) = of_int _ (bounds.wrapped _)

  -- an operator on two integers
  ints_keep : (o : Operator) (k : Kind) → TakesInts o k → (v w : Value) → IsOf p U (types.Of k) (operate o v w)
  ints_keep _ _ typed.add v w = of_int _ (bounds.wrapped _)
  ints_keep _ _ typed.subtract v w = of_int _ (bounds.wrapped _)
  ints_keep _ _ typed.multiply v w = of_int _ (bounds.wrapped _)
  ints_keep _ _ typed.less v w = of_truth _
  ints_keep _ _ typed.at_most v w = of_truth _
  ints_keep _ _ typed.greater v w = of_truth _
  ints_keep _ _ typed.at_least v w = of_truth _

  -- a call on a node of the attribute's class or of a subclass, and on null
  read_at_kind : (a : ℕ) (d : Attr) (i : Instance) → declared_of p a ≡ Some d → IsInstance p i → ((v : Value) → M i v → IsOf p U (types.Of d.kind) (as_kind d.kind v)) → Keeps p U M (types.Of d.kind) (Needs i (λ v. Gives (as_kind (attribute_kind p a) v)))
  read_at_kind a d i e h f = (h, λ v m. subst (λ (o : Option Attr). IsOf p U (types.Of d.kind) (as_kind (kind_or_truth (option_map (λ x. x.kind) o)) v)) (sym e) (f v m))

  call_keeps : (a : ℕ) (d : Attr) (r : Reference) (vs : List Value) → declared_of p a ≡ Some d → AreArguments p (parameter_kinds d.params) (as_arguments (parameter_kinds d.params) vs) → IsNodeOf p d.class r → Keeps p U M (types.Of d.kind) (call_at (world_of p) a r vs)
  call_keeps a d _ vs e q null = subst (λ (o : Option Attr). IsOf p U (types.Of d.kind) (default_of (kind_or_truth (option_map (λ x. x.kind) o)))) (sym e) (default_keeps d.kind)
  call_keeps a d _ vs e q (at {n = n} h) =
      let xs = as_arguments (parameter_kinds d.params) vs in
      subst (λ (o : Option Attr). Keeps p U M (types.Of d.kind) (Needs (Attribute a (At n) (as_arguments (kinds_or_none o) vs)) (λ v. Gives (as_kind (attribute_kind p a) v)))) (sym e)
      (read_at_kind a d (Attribute a (At n) xs) e (of_attribute d e h q) (λ v m. bounds.read a d (At n) xs v e m))

  -- a source node, among them
  pub source_ref : (k : ℕ) (c : ClassId) → IsAt p k c → IsRefOf p U c (At (Source k))
  source_ref k c h = let there = source_there p k c h in (at there, bounds.inside.source k there.there)

  -- a source node that the tree has
  source_known : (k : ℕ) (c : ClassId) → IsAt p k c → IsRefOf p U c (source_of p k)
  source_known k c h =
      let found = some_of (λ (x : TreeNode). x.class) (slice_get p.tree k) h.class h.of in
      subst (λ (o : Option TreeNode). IsRefOf p U c (source_or_null (option_map (λ x. k) o))) (sym found.1) (source_ref k c h)

  -- a node where it is of the class or below
  cast_at : (c d : ClassId) (n : NodeName) → IsRefOf p U d (At n) → (o : Option ClassId) → class_at p n ≡ o → (b : Bool) → is_below p.grammar o c ≡ b → IsRefOf p U c (cond b (At n) Null)
  cast_at c d n h o e false f = null_ref p U c
  cast_at c d n h None e true f = cc
  cast_at c d n h (Some x) e true f = (at (record { there = node_there p d n h.0; class = x; of = e; below = f }), h.1)

  cast_keeps : (c d : ClassId) (r : Reference) → IsRefOf p U d r → IsRefOf p U c (cast_to (world_of p) c r)
  cast_keeps c d Null h = null_ref p U c
  cast_keeps c d (At n) h = cast_at c d n h (class_at p n) refl (is_below p.grammar (class_at p n) c) refl

  module _ (good : IsProgram p) where
    -- what hangs at a component of a node, or null
    hung_keeps : (c : ClassId) (n k i : ℕ) (x : Component) → component_at p.grammar c.0 k ≡ Some x → IsNodeAt p (Source n) c → (o : Option ℕ) → child_in p.tree n k i ≡ o → IsRefOf p U x.class (source_or_null o)
    hung_keeps c n k i x e h None s = null_ref p U x.class
    hung_keeps c n k i x e h (Some m) s =
        let f = child_below p.grammar (length p.texts) p.tree good.tree n k i m h.class x h.of (inherited_component p.grammar good.grammar h.class.0 c.0 k x h.below e) s in
        source_ref m x.class (record { class = f.0; of = f.1; below = f.2 })

    made_keeps : (c : ClassId) (a : ℕ) (r : Reference) (xs : Row) (q k : ℕ) (x : Component) → component_at p.grammar c.0 k ≡ Some x → IsNodeAt p (Made a r xs q) c → U.nodes (Made a r xs q) → (o : Option ℕ) → child_in (tree_made p a r) q k 0 ≡ o
        → IsRefOf p U x.class (made_or_null (Made a r xs) o)
    made_keeps c a r xs q k x e h u None s = null_ref p U x.class
    made_keeps c a r xs q k x e h u (Some m) s =
        let there = child_made p good a r xs q k m c x h e s in
        (at there, bounds.inside.beside m there.there.5 u)

    child_at_node : (c : ClassId) (k : ℕ) (x : Component) → component_at p.grammar c.0 k ≡ Some x → (n : NodeName) → IsNodeAt p n c → U.nodes n → IsRefOf p U x.class (child_of p n k)
    child_at_node c k x e (Source n) h u = hung_keeps c n k 0 x e h (child_in p.tree n k 0) refl
    child_at_node c k x e (Made a r xs q) h u = made_keeps c a r xs q k x e h u (child_in (tree_made p a r) q k 0) refl

    child_keeps : (c : ClassId) (k : ℕ) (x : Component) → component_at p.grammar c.0 k ≡ Some x → (r : Reference) → IsRefOf p U c r → IsRefOf p U x.class (child_at (world_of p) k r)
    child_keeps c k x e Null h = null_ref p U x.class
    child_keeps c k x e (At n) h = child_at_node c k x e n (node_at p c n h.0) h.1

    element_keeps : (c : ClassId) (k : ℕ) (x : Component) → component_at p.grammar c.0 k ≡ Some x → (r : Reference) (z : ℤ) → IsRefOf p U c r → IsRefOf p U x.class (element_at (world_of p) k r z)
    element_keeps c k x e Null z h = null_ref p U x.class
    element_keeps c k x e (At (Source n)) (pos i) h = hung_keeps c n k i x e (node_at p c (Source n) h.0) (child_in p.tree n k i) refl
    element_keeps c k x e (At (Source n)) (negsuc i) h = null_ref p U x.class
    element_keeps c k x e (At (Made a r xs q)) z h = null_ref p U x.class

    -- what a condition says at each of some values
    each_keeps : (t : ValueType) (o : Bool → Bool → Bool) (so_far : Bool) (xs : List Value) (f : Value → Demands Instance Value) → AreOf p U t xs → ((x : Value) → IsOf p U t x → Keeps p U M (types.Of kinds.Truth) (f x)) → Keeps p U M (types.Of kinds.Truth) (at_each o so_far xs f)
    each_keeps t o so_far [] f are h = of_truth so_far
    each_keeps t o so_far (x ∷ xs) f are h =
        behind p U M (types.Of kinds.Truth) (types.Of kinds.Truth) (f x) (λ v. at_each o (o so_far (truth v)) xs f) (h x are.0) (λ v q. each_keeps t o (o so_far (truth v)) xs f are.1 h)

    first_keeps : (c : ClassId) (xs : List Value) (f : Value → Demands Instance Value) → AreOf p U (of_class c) xs → ((x : Value) → IsOf p U (of_class c) x → Keeps p U M (types.Of kinds.Truth) (f x)) → Keeps p U M (of_class c) (first_with xs f)
    first_keeps c [] f are h = of_node c Null (null_ref p U c)
    first_keeps c (x ∷ xs) f are h =
        let rest = first_with xs f in
        behind p U M (types.Of kinds.Truth) (of_class c) (f x) (λ v. cond (truth v) (Gives x) rest) (h x are.0) (λ v q. one_of p U M (of_class c) (Gives x) rest (truth v) are.0 (first_keeps c xs f are.1 h))

    over_keeps : (q : Quantifier) (c : ClassId) (xs : List Value) (f : Value → Demands Instance Value) → AreOf p U (of_class c) xs → ((x : Value) → IsOf p U (of_class c) x → Keeps p U M (types.Of kinds.Truth) (f x)) → Keeps p U M (quantified_type q c) (over_elements q xs f)
    over_keeps Any c xs f are h = each_keeps (of_class c) (λ a b. a || b) false xs f are h
    over_keeps All c xs f are h = each_keeps (of_class c) (λ a b. a && b) true xs f are h
    over_keeps First c xs f are h = first_keeps c xs f are h

    -- the forms that take sets are conditions
    over_set : (q : Quantifier) (t : ValueType) → takes_sets q ≡ true → (xs : List Value) (f : Value → Demands Instance Value) → AreOf p U t xs → ((x : Value) → IsOf p U t x → Keeps p U M (types.Of kinds.Truth) (f x)) → Keeps p U M (types.Of kinds.Truth) (over_elements q xs f)
    over_set Any t e xs f are h = each_keeps t (λ a b. a || b) false xs f are h
    over_set All t e xs f are h = each_keeps t (λ a b. a && b) true xs f are h
    over_set First t e xs f are h = cc

    -- a union
    united_keeps : (t u : ValueType) → is_set u ≡ true → (so_far : Value) (xs : List Value) (f : Value → Demands Instance Value) → IsOf p U u so_far → AreOf p U t xs → ((x : Value) → IsOf p U t x → Keeps p U M u (f x)) → Keeps p U M u (united (kept_kind u) so_far xs f)
    united_keeps t u e so_far [] f is are h = is
    united_keeps t u e so_far (x ∷ xs) f is are h =
        let more = λ (v : Value). set_operate Union (kept_kind u) so_far v in
        behind p U M u u (f x) (λ v. united (kept_kind u) (more v) xs f) (h x are.0) (λ v q. united_keeps t u e (more v) xs f (sets_keep p U Union u e so_far v is q) are.1 h)

    -- of the type at which it is kept
    union_keeps : (s : Kind) (t u : ValueType) → is_set u ≡ true → s ≡ kept_kind u → (xs : List Value) (f : Value → Demands Instance Value) → AreOf p U t xs → ((x : Value) → IsOf p U t x → Keeps p U M u (f x)) → Keeps p U M u (united s (default_of s) xs f)
    union_keeps s t u e same xs f are h = subst (λ (k : Kind). Keeps p U M u (united k (default_of k) xs f)) (sym same) (united_keeps t u e (default_of (kept_kind u)) xs f (default_set p U u e) are h)

    -- the elements of a receiver's list; null has none
    numbered : (c : ClassId) (element : ℕ → Reference) (numbers : List ℕ) → ((i : ℕ) → IsRefOf p U c (element i)) → AreOf p U (of_class c) (map (λ i. Node (element i)) numbers)
    numbered c element [] h = tt
    numbered c element (i ∷ numbers) h = (of_node c (element i) (h i), numbered c element numbers h)

    elements_are : (c : ClassId) (k : ℕ) (x : Component) → component_at p.grammar c.0 k ≡ Some x → (r : Reference) → IsRefOf p U c r → AreOf p U (of_class x.class) (elements_at (world_of p) k r)
    elements_are c k x e Null h = tt
    elements_are c k x e (At n) h = numbered x.class (λ i. element_of p n k (pos i)) (range_with_len 0 (count_of p n k)) (λ i. element_keeps c k x e (At n) (pos i) h)

    abbrev Meaning : Place → Expression → Demands Instance Value
    Meaning pl e = meaning_of (world_of p) e pl

    -- a component of the grammar of the names is one of the program's
    of_grammar : (g : List Class) → g ≡ p.grammar → (c : ClassId) (k : ℕ) (x : Component) → component_at g c.0 k ≡ Some x → component_at p.grammar c.0 k ≡ Some x
    of_grammar g same c k x e = subst (λ (f : List Class). component_at f c.0 k ≡ Some x) same e

    -- what is behind a receiver of a class
    on_receiver : (c : ClassId) (t : ValueType) (m : Demands Instance Value) (f : Reference → Demands Instance Value) → Keeps p U M (of_class c) m → ((r : Reference) → IsRefOf p U c r → Keeps p U M t (f r)) → Keeps p U M t (next m (λ r. f (node r)))
    on_receiver c t m f h g = behind p U M (of_class c) t m (λ r. f (node r)) h (λ v o. on_node p U c (λ (r : Reference). Keeps p U M t (f r)) v o g)

    -- both sides, and then the operator
    on_both : (t u w : ValueType) (o : Operator) (c d : Demands Instance Value) → Keeps p U M t c → Keeps p U M u d → ((x y : Value) → IsOf p U w (operate o x y)) → Keeps p U M w (next c (λ v. next d (λ x. Gives (operate o v x))))
    on_both t u w o c d g h f = behind p U M t w c (λ v. next d (λ x. Gives (operate o v x))) g (λ v q. behind p U M u w d (λ x. Gives (operate o v x)) h (λ x r. f v x))

    -- the truth value of the right side
    on_truth : (d : Demands Instance Value) → Keeps p U M (types.Of kinds.Truth) d → Keeps p U M (types.Of kinds.Truth) (next d (λ w. Gives (Truth (truth w))))
    on_truth d h = behind p U M (types.Of kinds.Truth) (types.Of kinds.Truth) d (λ w. Gives (Truth (truth w))) h (λ v q. of_truth (truth v))

    mutual
      -- arguments, each of which fits its parameter
      arguments_keep : {N : Names} {es : Arguments} {ks : List Kind} → Fit N es ks → (pl : Place) → AreNames p U N pl → AreSingle ks → (u : ValueType) (f : List Value → Demands Instance Value) → ((vs : List Value) → AreArguments p ks (as_arguments ks vs) → Keeps p U M u (f vs)) → Keeps p U M u (with_arguments (world_of p) es pl f)
      arguments_keep typed.end pl ns single u f g = g [] tt
      arguments_keep (typed.more {e = e} {es = es} {k = k} {ks = ks} t h w rest) pl ns single u f g =
          let same = subst (λ (x : List Class). fits x t k ≡ true) ns.grammar w in
          behind p U M t u (Meaning pl e) (λ v. with_arguments (world_of p) es pl (λ vs. f (v ∷ vs))) (typed_keeps h pl ns)
          (λ v o. arguments_keep rest pl ns single.1 u (λ vs. f (v ∷ vs)) (λ vs q. g (v ∷ vs) ((argument_of p U bounds.int_value bounds.text_value k single.0 v (fitting p U k t same v o)).0, q)))

      -- an expression, by the rule of its type
      pub typed_keeps : {N : Names} {e : Expression} {t : ValueType} → HasType N e t → (pl : Place) → AreNames p U N pl → Keeps p U M t (Meaning pl e)
      typed_keeps (typed.truth b) pl ns = of_truth b
      typed_keeps (typed.int z w) pl ns = of_int z (bounds.literal z w)
      typed_keeps (typed.text k) pl ns = of_text _ (bounds.text k)
      typed_keeps typed.null pl ns = of_null
      typed_keeps typed.empty pl ns = no_nodes p U types.Empty refl
      typed_keeps (typed.this c e) pl ns = of_node c _ (ns.this c e)
      typed_keeps (typed.variable k t e) pl ns = ns.variables k t e
      typed_keeps (typed.source k c e) pl ns = of_node c _ (source_known k c (ns.node k c e))
      typed_keeps (typed.child {e = e} c k x h s g) pl ns =
          on_receiver c (of_class x.class) (Meaning pl e) (λ r. Gives (Node (child_at (world_of p) k r))) (typed_keeps h pl ns) (λ r o. of_node x.class _ (child_keeps c k x (of_grammar _ ns.grammar c k x s) r o))
      typed_keeps (typed.element {e = e} {i = i} c k x h s g j) pl ns =
          on_receiver c (of_class x.class) (Meaning pl e) (λ r. next (Meaning pl i) (λ z. Gives (Node (element_at (world_of p) k r (int z))))) (typed_keeps h pl ns)
          (λ r o. behind p U M (types.Of kinds.Int) (of_class x.class) (Meaning pl i) (λ z. Gives (Node (element_at (world_of p) k r (int z)))) (typed_keeps j pl ns) (λ z q. of_node x.class _ (element_keeps c k x (of_grammar _ ns.grammar c k x s) r (int z) o)))
      typed_keeps (typed.count {e = e} c k x h s g) pl ns = on_receiver c (types.Of kinds.Int) (Meaning pl e) (λ r. Gives (Int (count_at (world_of p) k r))) (typed_keeps h pl ns) (λ r o. count_keeps k r)
      typed_keeps (typed.has {e = e} c k x h s g) pl ns = on_receiver c (types.Of kinds.Truth) (Meaning pl e) (λ r. Gives (Truth (is_there (child_at (world_of p) k r)))) (typed_keeps h pl ns) (λ r o. of_truth _)
      typed_keeps (typed.token {e = e} c k x t h s g) pl ns = on_receiver c (types.Of t) (Meaning pl e) (λ r. token_at (world_of p) t k r) (typed_keeps h pl ns) (λ r o. token_keeps c t k r (token_plain x.shape t g) o)
      typed_keeps (typed.call {e = e} {es = es} c a place d h s b fit) pl ns =
          on_receiver c (types.Of d.kind) (Meaning pl e) (λ r. with_arguments (world_of p) es pl (λ vs. call_at (world_of p) a r vs)) (typed_keeps h pl ns)
          (λ r o.
          let stands = node_above p c d.class r (subst (λ (g : List Class). is_sub g c.0 d.class.0 ≡ true) ns.grammar b) o.0 in
          arguments_keep fit pl ns (bounds.parameters a d (ns.attribute a d s)) (types.Of d.kind) (λ vs. call_at (world_of p) a r vs) (λ vs q. call_keeps a d r vs (ns.attribute a d s) q stands))
      typed_keeps (typed.cast {e = e} t c h n w) pl ns = behind p U M t (of_class c) (Meaning pl e) (λ r. Gives (Node (cast_to (world_of p) c (node r)))) (typed_keeps h pl ns) (λ v o. on_any p U t n (λ (r : Reference). Keeps p U M (of_class c) (Gives (Node (cast_to (world_of p) c r)))) v o (of_node c Null (null_ref p U c)) (λ d r there. of_node c _ (cast_keeps c d r there)))
      typed_keeps (typed.instance_of {e = e} t c h n w) pl ns = behind p U M t (types.Of kinds.Truth) (Meaning pl e) (λ r. Gives (Truth (is_instance (world_of p) c (node r)))) (typed_keeps h pl ns) (λ v o. of_truth _)
      typed_keeps (typed.quantified {N = N} {e = e} {b = b} q c k x h s g f) pl ns =
          on_receiver c (quantified_type q x.class) (Meaning pl e) (λ r. over_elements q (elements_at (world_of p) k r) (λ v. meaning_of (world_of p) b (with_name pl v))) (typed_keeps h pl ns)
          (λ r o. over_keeps q x.class (elements_at (world_of p) k r) (λ v. meaning_of (world_of p) b (with_name pl v)) (elements_are c k x (of_grammar _ ns.grammar c k x s) r o) (λ v i. typed_keeps f (with_name pl v) (names_more p U N pl (kinds.Node x.class) v i ns)))
      typed_keeps (typed.quantified_set {N = N} {e = e} {b = b} q t k w h s f) pl ns =
          behind p U M t (types.Of kinds.Truth) (Meaning pl e) (λ v. over_elements q (elements_of v) (λ x. meaning_of (world_of p) b (with_name pl x))) (typed_keeps h pl ns)
          (λ v o. over_set q (types.Of k) w (elements_of v) (λ x. meaning_of (world_of p) b (with_name pl x)) (elements_keep p U t k s v o) (λ x i. typed_keeps f (with_name pl x) (names_more p U N pl k x i ns)))
      typed_keeps (typed.each {N = N} {e = e} {b = b} y c k x u h s g f w same) pl ns =
          on_receiver c u (Meaning pl e) (λ r. united y (default_of y) (elements_at (world_of p) k r) (λ v. meaning_of (world_of p) b (with_name pl v))) (typed_keeps h pl ns)
          (λ r o. union_keeps y (of_class x.class) u w same (elements_at (world_of p) k r) (λ v. meaning_of (world_of p) b (with_name pl v)) (elements_are c k x (of_grammar _ ns.grammar c k x s) r o) (λ v i. typed_keeps f (with_name pl v) (names_more p U N pl (kinds.Node x.class) v i ns)))
      typed_keeps (typed.each_of_set {N = N} {e = e} {b = b} y t k u h s f w same) pl ns =
          behind p U M t u (Meaning pl e) (λ v. united y (default_of y) (elements_of v) (λ x. meaning_of (world_of p) b (with_name pl x))) (typed_keeps h pl ns)
          (λ v o. union_keeps y (types.Of k) u w same (elements_of v) (λ x. meaning_of (world_of p) b (with_name pl x)) (elements_keep p U t k s v o) (λ x i. typed_keeps f (with_name pl x) (names_more p U N pl k x i ns)))
      typed_keeps (typed.sets {a = a} {b = b} o y t u w g h s c same) pl ns =
          let joint = subst (λ (x : List Class). common x t u ≡ Some w) ns.grammar c in
          let set = common_set p U t u w s joint in
          subst (λ (k : Kind). Keeps p U M w (next (Meaning pl a) (λ v. next (Meaning pl b) (λ x. Gives (set_operate o k v x))))) (sym same)
          (behind p U M t w (Meaning pl a) (λ v. next (Meaning pl b) (λ x. Gives (set_operate o (kept_kind w) v x))) (typed_keeps g pl ns)
          (λ v q. behind p U M u w (Meaning pl b) (λ x. Gives (set_operate o (kept_kind w) v x)) (typed_keeps h pl ns) (λ x r. sets_keep p U o w set v x (common_left p U t u w joint v q) (common_right p U t u w joint x r))))
      typed_keeps (typed.single {e = e} t u h s) pl ns = behind p U M t u (Meaning pl e) (λ v. Gives (single v)) (typed_keeps h pl ns) (λ v o. single_keeps p U t u s v o)
      typed_keeps (typed.contains {a = a} {b = b} t u g h w) pl ns =
          behind p U M t (types.Of kinds.Truth) (Meaning pl a) (λ v. next (Meaning pl b) (λ x. Gives (Truth (contains v x)))) (typed_keeps g pl ns) (λ v q. behind p U M u (types.Of kinds.Truth) (Meaning pl b) (λ x. Gives (Truth (contains v x))) (typed_keeps h pl ns) (λ x r. of_truth _))
      typed_keeps (typed.size {e = e} t h s) pl ns = behind p U M t (types.Of kinds.Int) (Meaning pl e) (λ v. Gives (Int (int_wrap w32 (pos (size_of v))))) (typed_keeps h pl ns) (λ v o. of_int _ (bounds.wrapped _))
      typed_keeps (typed.not {e = e} h) pl ns = behind p U M (types.Of kinds.Truth) (types.Of kinds.Truth) (Meaning pl e) (λ v. Gives (Truth (not (truth v)))) (typed_keeps h pl ns) (λ v q. of_truth _)
      typed_keeps (typed.negate {e = e} h) pl ns =
          behind p U M (types.Of kinds.Int) (types.Of kinds.Int) (Meaning pl e) (λ v. Gives (Int (int_wrap w32 (neg_ℤ (int v))))) (typed_keeps h pl ns) (λ v q. of_int _ (bounds.wrapped _))
      typed_keeps (typed.ints {a = a} {b = b} o k q g h) pl ns = on_both (types.Of kinds.Int) (types.Of kinds.Int) (types.Of k) o (Meaning pl a) (Meaning pl b) (typed_keeps g pl ns) (typed_keeps h pl ns) (ints_keep o k q)
      typed_keeps (typed.equal {a = a} {b = b} t u g h q) pl ns = on_both t u (types.Of kinds.Truth) Equal (Meaning pl a) (Meaning pl b) (typed_keeps g pl ns) (typed_keeps h pl ns) (λ v w. of_truth _)
      typed_keeps (typed.and {a = a} {b = b} g h) pl ns =
          let right = next (Meaning pl b) (λ w. Gives (Truth (truth w))) in
          behind p U M (types.Of kinds.Truth) (types.Of kinds.Truth) (Meaning pl a) (λ v. cond (truth v) right (Gives (Truth false))) (typed_keeps g pl ns)
          (λ v q. one_of p U M (types.Of kinds.Truth) right (Gives (Truth false)) (truth v) (on_truth (Meaning pl b) (typed_keeps h pl ns)) (of_truth false))
      typed_keeps (typed.or {a = a} {b = b} g h) pl ns =
          let right = next (Meaning pl b) (λ w. Gives (Truth (truth w))) in
          behind p U M (types.Of kinds.Truth) (types.Of kinds.Truth) (Meaning pl a) (λ v. cond (truth v) (Gives (Truth true)) right) (typed_keeps g pl ns)
          (λ v q. one_of p U M (types.Of kinds.Truth) (Gives (Truth true)) right (truth v) (of_truth true) (on_truth (Meaning pl b) (typed_keeps h pl ns)))
      typed_keeps (typed.or_both {a = a} {b = b} g h) pl ns =
          behind p U M (types.Of kinds.Truth) (types.Of kinds.Truth) (Meaning pl a) (λ v. next (Meaning pl b) (λ w. Gives (Truth (truth v || truth w)))) (typed_keeps g pl ns)
          (λ v q. behind p U M (types.Of kinds.Truth) (types.Of kinds.Truth) (Meaning pl b) (λ w. Gives (Truth (truth v || truth w))) (typed_keeps h pl ns) (λ w r. of_truth _))
      typed_keeps (typed.choice {c = c} {a = a} {b = b} place t u w f g h e) pl ns =
          let same = subst (λ (x : List Class). common x t u ≡ Some w) ns.grammar e in
          behind p U M (types.Of kinds.Truth) w (Meaning pl c) (λ v. cond (truth v) (Meaning pl a) (Meaning pl b)) (typed_keeps f pl ns)
          (λ v q. one_of p U M w (Meaning pl a) (Meaning pl b) (truth v) (widened p U M (IsOf p U t) (IsOf p U w) (Meaning pl a) (common_left p U t u w same) (typed_keeps g pl ns)) (widened p U M (IsOf p U u) (IsOf p U w) (Meaning pl b) (common_right p U t u w same) (typed_keeps h pl ns)))

    -- the values of the tokens of two trees
    tokens_beside : (ks ls : List Kind) (ts us : List Argument) → AreTokens p ks ts → AreTokens p ls us → AreTokens p (ks ++ ls) (ts ++ us)
    tokens_beside [] ls [] us g h = h
    tokens_beside [] ls (x ∷ ts) us g h = absurd g
    tokens_beside (k ∷ ks) ls [] us g h = absurd g
    tokens_beside (k ∷ ks) ls (x ∷ ts) us g h = (g.0, tokens_beside ks ls ts us g.1 h)

    -- what follows the values of the tokens of a `new`, which are of their types
    pub tokens_keep : (P : Value → Type 0) {N : Names} {parts : NewArguments} {xs : List Component} → FitComponents N parts xs → (pl : Place) → AreNames p U N pl → (f : List Argument → Demands Instance Value)
        → ((ts : List Argument) → AreTokens p (token_kinds parts) ts → KeepsAll p U M P (f ts)) → KeepsAll p U M P (with_tokens (world_of p) parts pl f)
    tokens_keep P typed.no_more_components pl ns f g = g [] tt
    tokens_keep P (typed.token_fits {e = e} {rest = rest} x k t is h w fit) pl ns f g =
        let same = subst (λ (y : List Class). fits y t k ≡ true) ns.grammar w in
        let plain = plain_single k (token_plain x.shape k is) in
        all_behind p U M (IsOf p U t) P (Meaning pl e) (λ v. with_tokens (world_of p) rest pl (λ ts. f (as_argument k v ∷ ts))) (typed_keeps h pl ns)
        (λ v o.
        let known = argument_of p U bounds.int_value bounds.text_value k plain v (fitting p U k t same v o) in
        tokens_keep P fit pl ns (λ ts. f (as_argument k v ∷ ts)) (λ ts are. g (as_argument k v ∷ ts) (value_argument p k (as_argument k v) known.0, are)))
    tokens_keep P (typed.child_fits {parts = parts} {rest = rest} x d s b concrete inner fit) pl ns f g =
        tokens_keep P inner pl ns (λ ts. with_tokens (world_of p) rest pl (λ us. f (ts ++ us))) (λ ts are. tokens_keep P fit pl ns (λ us. f (ts ++ us)) (λ us here. g (ts ++ us) (tokens_beside (token_kinds parts) (token_kinds rest) ts us are here)))
