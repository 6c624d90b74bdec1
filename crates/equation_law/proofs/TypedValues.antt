-- The values of a type that an expression may come to, and that they keep to common types and to types which they fit.
use Rattle.std.proofs.Common.{◌≡◌, ℕ, ℤ, Bool, true, false, List, [], ◌∷◌, map, Contains, Option, Some, None, refl, sym, ap, subst, ◌∙◌, inl, inr}
use Rattle.std.specs.Cmp.{IsTotalOrder, tied_itself}
use Rattle.std.specs.Cmp.Lexicographic.{nat_list_cmp_total}
use Rattle.std.specs.FinMap.{contains_key-keys}
use Rattle.std.specs.Int.{int_wrap}
use Rattle.std.specs.List.{list_any}
use Rattle.std.specs.Ordering.{eq_by_cmp, is_eq}
use Rattle.std.specs.declared.cmp.Ordering.{Ordering}
use mir.Syntax.{w32}
use Rattle.superclasses.specs.Superclasses.{nearest_common}
use Rattle.superclasses.proofs.Lines.{common_sub, sub_then}
use Rattle.ast_grammar.specs.declared.grammar.ClassId.{ClassId}
use Rattle.ast_grammar.specs.Grammar.{is_sub, superclasses_of}
use Rattle.attr_rules.specs.declared.expression.SetOperator.{SetOperator}
use Rattle.attr_rules.specs.declared.kinds.Kind.{Kind}
use Rattle.attr_rules.specs.declared.kinds.Kind.TheVariants as kinds
use Rattle.attr_rules.specs.declared.types.ValueType.{ValueType}
use Rattle.attr_rules.specs.declared.types.ValueType.TheVariants as types
use Rattle.attr_rules.specs.Rules.{is_single}
use Rattle.attr_rules.specs.Types.{class_of_number, common, common_class, common_element, common_node, common_nodes, element_class, elements_of as element_of_type, fits, fits_class, fits_nodes, is_int, is_node, is_set, is_text, is_texts, is_truth, kept_kind, kind_class, nodes_of_number, of_class, of_nodes, set_of as set_of_type, type_where}
use Rattle.solutions.proofs.Runs.{or_left, or_right}
use Rattle.equation_law.specs.Checked.{IsNodeAt, IsNodeOf, IsValue, at, null, int as int_value, node as node_value, nodes as nodes_value, text as text_value, texts as texts_value, tree as tree_value, truth as truth_value}
use Rattle.equation_law.specs.Names.{Argument, At, NodeName, Null, OfInt, OfNode, OfText, OfTruth, Reference, node_cmp, text_cmp}
use Rattle.equation_law.specs.Program.{Program}
use Rattle.equation_law.specs.Sets.{elements, has, no_elements, set_of}
use Rattle.equation_law.specs.Values.{Value, Truth, Int, Text, Node, Texts, Nodes, Tree, argument_value, as_argument, as_kind, combined, default_of, elements_of, node, nodes, of_node as node_at, set_operate, single, texts}
use Rattle.equation_law.proofs.Among.{Among, HasArgument, HasReference}
use Rattle.equation_law.proofs.Lists.{some_of}
use Rattle.equation_law.proofs.Names.{code_anti, node_anti}
use Rattle.equation_law.proofs.Orders.{node_total}
use Rattle.equation_law.proofs.Sets.{combined_from, none_has, only_one}

-- any two texts are in order
texts_total : IsTotalOrder text_cmp
texts_total = nat_list_cmp_total

-- a type that is chosen by a test that holds
where_some : (b : Bool) (u t : ValueType) → type_where b u ≡ Some t → (b ≡ true) × (u ≡ t)
where_some true u t e = (refl, cc)
where_some false u t e = cc

-- the types that the tests tell
truth_type : (t : ValueType) → is_truth t ≡ true → types.Of kinds.Truth ≡ t
truth_type types.Null e = cc
truth_type types.Empty e = cc
truth_type (types.Of kinds.Truth) e = refl
truth_type (types.Of kinds.Int) e = cc
truth_type (types.Of kinds.Text) e = cc
truth_type (types.Of (kinds.Node c)) e = cc
truth_type (types.Of kinds.Texts) e = cc
truth_type (types.Of (kinds.Nodes c)) e = cc

int_type : (t : ValueType) → is_int t ≡ true → types.Of kinds.Int ≡ t
int_type types.Null e = cc
int_type types.Empty e = cc
int_type (types.Of kinds.Truth) e = cc
int_type (types.Of kinds.Int) e = refl
int_type (types.Of kinds.Text) e = cc
int_type (types.Of (kinds.Node c)) e = cc
int_type (types.Of kinds.Texts) e = cc
int_type (types.Of (kinds.Nodes c)) e = cc

text_type : (t : ValueType) → is_text t ≡ true → types.Of kinds.Text ≡ t
text_type types.Null e = cc
text_type types.Empty e = cc
text_type (types.Of kinds.Truth) e = cc
text_type (types.Of kinds.Int) e = cc
text_type (types.Of kinds.Text) e = refl
text_type (types.Of (kinds.Node c)) e = cc
text_type (types.Of kinds.Texts) e = cc
text_type (types.Of (kinds.Nodes c)) e = cc

-- no set is a truth value, an integer, a text or a node
single_no_set : (k : Kind) → is_single k ≡ true → is_set (types.Of k) ≡ true → ⊥
single_no_set kinds.Truth e s = cc
single_no_set kinds.Int e s = cc
single_no_set kinds.Text e s = cc
single_no_set (kinds.Node c) e s = cc
single_no_set kinds.Texts e s = cc
single_no_set (kinds.Nodes c) e s = cc

module _ (p : Program) where
  -- a node of a class is one of each class above it
  at_above : (c d : ClassId) (n : NodeName) → is_sub p.grammar c.0 d.0 ≡ true → IsNodeAt p n c → IsNodeAt p n d
  at_above c d n s a = record { there = a.there; class = a.class; of = a.of; below = sub_then (superclasses_of p.grammar) a.class.0 c.0 d.0 a.below s }

  pub node_above : (c d : ClassId) (r : Reference) → is_sub p.grammar c.0 d.0 ≡ true → IsNodeOf p c r → IsNodeOf p d r
  node_above c d _ s null = null
  node_above c d _ s (at {n = n} h) = at (at_above c d n s h)

-- a tree, and no other value
abbrev is_tree : Value → Bool
is_tree (Truth b) = false
is_tree (Int z) = false
is_tree (Text t) = false
is_tree (Node r) = false
is_tree (Texts s) = false
is_tree (Nodes s) = false
is_tree (Tree r ts) = true

-- no argument is one
no_tree : (x : Argument) → is_tree (argument_value x) ≡ false
no_tree (OfTruth b) = refl
no_tree (OfInt z) = refl
no_tree (OfText t) = refl
no_tree (OfNode r) = refl

-- a value of a type that is no tree stays where it is read at it
read_same : (p : Program) (k : Kind) (v : Value) → IsValue p k v → is_tree v ≡ false → as_kind k v ≡ v
read_same p _ _ (truth_value b) e = refl
read_same p _ _ (int_value z h) e = refl
read_same p _ _ (text_value t h) e = refl
read_same p _ _ (node_value c r h) e = refl
read_same p _ _ (texts_value s h) e = refl
read_same p _ _ (tree_value c r ts h) e = cc
read_same p _ _ (nodes_value c s h) e = refl

-- no type is one of nodes and of sets
no_set_node : (t : ValueType) → is_node t ≡ true → is_set t ≡ true → ⊥
no_set_node types.Null e s = cc
no_set_node types.Empty e s = cc
no_set_node (types.Of kinds.Truth) e s = cc
no_set_node (types.Of kinds.Int) e s = cc
no_set_node (types.Of kinds.Text) e s = cc
no_set_node (types.Of (kinds.Node c)) e s = cc
no_set_node (types.Of kinds.Texts) e s = cc
no_set_node (types.Of (kinds.Nodes c)) e s = cc

-- Values of types, among some integers, texts and nodes.
module _ (p : Program) (U : Among) where
  -- null, or a node of the class or of a subclass, that is among them
  abbrev pub IsRefOf : ClassId → Reference → Type 0
  IsRefOf c r = IsNodeOf p c r × HasReference U.nodes r

  ref_above : (c d : ClassId) (r : Reference) → is_sub p.grammar c.0 d.0 ≡ true → IsRefOf c r → IsRefOf d r
  ref_above c d r s h = (node_above p c d r s h.0, h.1)

  pub null_ref : (c : ClassId) → IsRefOf c Null
  null_ref c = (null, tt)

  -- what may be an element of a set of a type; of `empty` nothing may
  abbrev pub IsTextIn : ValueType → List ℕ → Type 0
  IsTextIn types.Null t = ⊥
  IsTextIn types.Empty t = ⊥
  IsTextIn (types.Of kinds.Truth) t = ⊥
  IsTextIn (types.Of kinds.Int) t = ⊥
  IsTextIn (types.Of kinds.Text) t = ⊥
  IsTextIn (types.Of (kinds.Node c)) t = ⊥
  IsTextIn (types.Of kinds.Texts) t = U.texts t
  IsTextIn (types.Of (kinds.Nodes c)) t = ⊥

  abbrev pub IsNodeIn : ValueType → NodeName → Type 0
  IsNodeIn types.Null n = ⊥
  IsNodeIn types.Empty n = ⊥
  IsNodeIn (types.Of kinds.Truth) n = ⊥
  IsNodeIn (types.Of kinds.Int) n = ⊥
  IsNodeIn (types.Of kinds.Text) n = ⊥
  IsNodeIn (types.Of (kinds.Node c)) n = ⊥
  IsNodeIn (types.Of kinds.Texts) n = ⊥
  IsNodeIn (types.Of (kinds.Nodes c)) n = IsRefOf c (At n)

  -- all that a value has as elements may be elements of a set of the type
  pub record HasElements (t : ValueType) (v : Value) : Type 0 where
    pub text : (q : List ℕ) → has (texts v) q ≡ true → IsTextIn t q
    pub node : (n : NodeName) → has (nodes v) n ≡ true → IsNodeIn t n

  -- An empty set is of each type of sets, whatever set it is.
  pub data IsOf : ValueType → Value → Type 0 where
    of_truth : (b : Bool) → IsOf (types.Of kinds.Truth) (Truth b)
    of_int : (z : ℤ) → U.ints z → IsOf (types.Of kinds.Int) (Int z)
    of_text : (t : List ℕ) → U.texts t → IsOf (types.Of kinds.Text) (Text t)
    of_node : (c : ClassId) (r : Reference) → IsRefOf c r → IsOf (of_class c) (Node r)
    of_null : IsOf types.Null (Node Null)
    of_set : (t : ValueType) (v : Value) → is_set t ≡ true → HasElements t v → IsOf t v

  -- what holds of all nodes of a class holds of what the values of that type stand for
  pub on_node : (c : ClassId) (P : Reference → Type 0) (v : Value) → IsOf (of_class c) v → ((r : Reference) → IsRefOf c r → P r) → P (node v)
  on_node c P _ (of_node _ r h) f = f r h
  on_node c P v (of_set _ _ s h) f = cc

  -- and what holds of all nodes holds of what the values of a type of nodes stand for
  pub on_any : (t : ValueType) → is_node t ≡ true → (P : Reference → Type 0) (v : Value) → IsOf t v → P Null → ((c : ClassId) (r : Reference) → IsRefOf c r → P r) → P (node v)
  on_any _ e P _ (of_truth b) z f = z
  on_any _ e P _ (of_int i h) z f = z
  on_any _ e P _ (of_text t h) z f = z
  on_any _ e P _ (of_node c r h) z f = f c r h
  on_any _ e P _ of_null z f = z
  on_any t e P v (of_set _ _ s h) z f = absurd (no_set_node t e s)

  -- null is of each type of nodes
  null_of : (t : ValueType) → is_node t ≡ true → IsOf t (Node Null)
  null_of types.Null e = of_null
  null_of types.Empty e = cc
  null_of (types.Of kinds.Truth) e = cc
  null_of (types.Of kinds.Int) e = cc
  null_of (types.Of kinds.Text) e = cc
  null_of (types.Of (kinds.Node c)) e = of_node c Null (null_ref c)
  null_of (types.Of kinds.Texts) e = cc
  null_of (types.Of (kinds.Nodes c)) e = cc

  -- values without elements
  pub no_texts : (t : ValueType) → is_set t ≡ true → IsOf t (Texts no_elements)
  no_texts t e = of_set t _ e (record { text = λ q i. absurd (none_has text_cmp q i); node = λ n i. absurd (none_has node_cmp n i) })

  pub no_nodes : (t : ValueType) → is_set t ≡ true → IsOf t (Nodes no_elements)
  no_nodes t e = of_set t _ e (record { text = λ q i. absurd (none_has text_cmp q i); node = λ n i. absurd (none_has node_cmp n i) })

  -- the default of the type at which sets are kept
  pub default_set : (t : ValueType) → is_set t ≡ true → IsOf t (default_of (kept_kind t))
  default_set types.Null e = cc
  default_set types.Empty e = no_texts types.Empty e
  default_set (types.Of kinds.Truth) e = cc
  default_set (types.Of kinds.Int) e = cc
  default_set (types.Of kinds.Text) e = cc
  default_set (types.Of (kinds.Node c)) e = cc
  default_set (types.Of kinds.Texts) e = no_texts (types.Of kinds.Texts) e
  default_set (types.Of (kinds.Nodes c)) e = no_nodes (types.Of (kinds.Nodes c)) e

  -- the elements of a value of a type of sets
  elements_in : (t : ValueType) (v : Value) → is_set t ≡ true → IsOf t v → HasElements t v
  elements_in _ _ e (of_truth b) = cc
  elements_in _ _ e (of_int z h) = cc
  elements_in _ _ e (of_text t h) = cc
  elements_in _ _ e (of_node c r h) = cc
  elements_in _ _ e of_null = cc
  elements_in _ _ e (of_set t v s h) = h

  -- a type of sets that has the elements of another
  record IsWider (s t : ValueType) : Type 0 where
    set : is_set t ≡ true
    text : (q : List ℕ) → IsTextIn s q → IsTextIn t q
    node : (n : NodeName) → IsNodeIn s n → IsNodeIn t n

  wider_itself : (t : ValueType) → is_set t ≡ true → IsWider t t
  wider_itself t e = record { set = e; text = λ q h. h; node = λ n h. h }

  wider_empty : (t : ValueType) → is_set t ≡ true → IsWider types.Empty t
  wider_empty t e = record { set = e; text = λ q h. absurd h; node = λ n h. absurd h }

  wider_class : (c d : ClassId) → is_sub p.grammar c.0 d.0 ≡ true → IsWider (of_nodes c) (of_nodes d)
  wider_class c d e = record { set = refl; text = λ q h. h; node = λ n h. ref_above c d (At n) e h }

  widened : (s t : ValueType) (v : Value) → is_set s ≡ true → IsWider s t → IsOf s v → IsOf t v
  widened s t v e w h = let a = elements_in s v e h in of_set t v w.set (record { text = λ q i. w.text q (a.text q i); node = λ n i. w.node n (a.node n i) })

  wider_texts : (t : ValueType) → is_texts t ≡ true → IsWider t (types.Of kinds.Texts)
  wider_texts types.Null e = cc
  wider_texts types.Empty e = wider_empty (types.Of kinds.Texts) refl
  wider_texts (types.Of kinds.Truth) e = cc
  wider_texts (types.Of kinds.Int) e = cc
  wider_texts (types.Of kinds.Text) e = cc
  wider_texts (types.Of (kinds.Node c)) e = cc
  wider_texts (types.Of kinds.Texts) e = wider_itself (types.Of kinds.Texts) refl
  wider_texts (types.Of (kinds.Nodes c)) e = cc

  -- the common type of two sets of nodes has the elements of both
  nearest_left : (c : ClassId) (o : Option ClassId) (t : ValueType) → common_element p.grammar c o ≡ Some t → IsWider (of_nodes c) t
  nearest_left c None t e = cc
  nearest_left c (Some d) t e =
      let s = some_of nodes_of_number (nearest_common (superclasses_of p.grammar) c.0 d.0) t e in
      let above : ClassId = record { 0 = s.0 } in
      subst (IsWider (of_nodes c)) s.2 (wider_class c above (common_sub (superclasses_of p.grammar) c.0 d.0 s.0 s.1).0)

  nodes_left : (c : ClassId) (u t : ValueType) → common_nodes p.grammar c u ≡ Some t → IsWider (of_nodes c) t
  nodes_left c types.Null t e = cc
  nodes_left c types.Empty t e = let same : of_nodes c ≡ t = cc in subst (IsWider (of_nodes c)) same (wider_itself (of_nodes c) refl)
  nodes_left c (types.Of k) t e = nearest_left c (element_class k) t e

  nodes_right : (c : ClassId) (u t : ValueType) → common_nodes p.grammar c u ≡ Some t → IsWider u t
  nodes_right c types.Null t e = cc
  nodes_right c types.Empty t e = let same : of_nodes c ≡ t = cc in subst (IsWider types.Empty) same (wider_empty (of_nodes c) refl)
  nodes_right c (types.Of kinds.Truth) t e = cc
  nodes_right c (types.Of kinds.Int) t e = cc
  nodes_right c (types.Of kinds.Text) t e = cc
  nodes_right c (types.Of (kinds.Node d)) t e = cc
  nodes_right c (types.Of kinds.Texts) t e = cc
  nodes_right c (types.Of (kinds.Nodes d)) t e =
      let s = some_of nodes_of_number (nearest_common (superclasses_of p.grammar) c.0 d.0) t e in
      let above : ClassId = record { 0 = s.0 } in
      subst (IsWider (of_nodes d)) s.2 (wider_class d above (common_sub (superclasses_of p.grammar) c.0 d.0 s.0 s.1).1)

  -- and so has that of any two sets
  wider_left : (s u t : ValueType) → is_set s ≡ true → common p.grammar s u ≡ Some t → IsWider s t
  wider_left types.Null u t e f = cc
  wider_left types.Empty u t e f = let w = where_some (is_set u) u t f in wider_empty t (ap is_set (sym w.1) ∙ w.0)
  wider_left (types.Of kinds.Truth) u t e f = cc
  wider_left (types.Of kinds.Int) u t e f = cc
  wider_left (types.Of kinds.Text) u t e f = cc
  wider_left (types.Of (kinds.Node c)) u t e f = cc
  wider_left (types.Of kinds.Texts) u t e f = subst (IsWider (types.Of kinds.Texts)) (where_some (is_texts u) (types.Of kinds.Texts) t f).1 (wider_itself (types.Of kinds.Texts) refl)
  wider_left (types.Of (kinds.Nodes c)) u t e f = nodes_left c u t f

  wider_right : (s u t : ValueType) → is_set s ≡ true → common p.grammar s u ≡ Some t → IsWider u t
  wider_right types.Null u t e f = cc
  wider_right types.Empty u t e f = let w = where_some (is_set u) u t f in subst (IsWider u) w.1 (wider_itself u w.0)
  wider_right (types.Of kinds.Truth) u t e f = cc
  wider_right (types.Of kinds.Int) u t e f = cc
  wider_right (types.Of kinds.Text) u t e f = cc
  wider_right (types.Of (kinds.Node c)) u t e f = cc
  wider_right (types.Of kinds.Texts) u t e f = let w = where_some (is_texts u) (types.Of kinds.Texts) t f in subst (IsWider u) w.1 (wider_texts u w.0)
  wider_right (types.Of (kinds.Nodes c)) u t e f = nodes_right c u t f

  -- it is a type of sets
  pub common_set : (s u t : ValueType) → is_set s ≡ true → common p.grammar s u ≡ Some t → is_set t ≡ true
  common_set s u t e f = (wider_left s u t e f).set

  -- a value of one of two types is of their common type
  common_class_left : (c : ClassId) (o : Option ClassId) (t : ValueType) → common_class p.grammar c o ≡ Some t → (r : Reference) → IsRefOf c r → IsOf t (Node r)
  common_class_left c None t e r h = cc
  common_class_left c (Some d) t e r h =
      let s = some_of class_of_number (nearest_common (superclasses_of p.grammar) c.0 d.0) t e in
      let above : ClassId = record { 0 = s.0 } in
      subst (λ (x : ValueType). IsOf x (Node r)) s.2 (of_node above r (ref_above c above r (common_sub (superclasses_of p.grammar) c.0 d.0 s.0 s.1).0 h))

  common_node_left : (c : ClassId) (u t : ValueType) → common_node p.grammar c u ≡ Some t → (r : Reference) → IsRefOf c r → IsOf t (Node r)
  common_node_left c types.Null t e r h = let same : of_class c ≡ t = cc in subst (λ (x : ValueType). IsOf x (Node r)) same (of_node c r h)
  common_node_left c types.Empty t e r h = cc
  common_node_left c (types.Of k) t e r h = common_class_left c (kind_class k) t e r h

  pub common_left : (s u t : ValueType) → common p.grammar s u ≡ Some t → (v : Value) → IsOf s v → IsOf t v
  common_left _ u t e _ (of_truth b) = let w = where_some (is_truth u) u t e in subst (λ (x : ValueType). IsOf x (Truth b)) (truth_type u w.0 ∙ w.1) (of_truth b)
  common_left _ u t e _ (of_int z h) = let w = where_some (is_int u) u t e in subst (λ (x : ValueType). IsOf x (Int z)) (int_type u w.0 ∙ w.1) (of_int z h)
  common_left _ u t e _ (of_text s h) = let w = where_some (is_text u) u t e in subst (λ (x : ValueType). IsOf x (Text s)) (text_type u w.0 ∙ w.1) (of_text s h)
  common_left _ u t e _ (of_node c r h) = common_node_left c u t e r h
  common_left _ u t e _ of_null = let w = where_some (is_node u) u t e in subst (λ (x : ValueType). IsOf x (Node Null)) w.1 (null_of u w.0)
  common_left _ u t e _ (of_set s v i h) = widened s t v i (wider_left s u t i e) (of_set s v i h)

  -- no set has a common type with nodes
  no_common : (c : ClassId) (u t : ValueType) → is_set u ≡ true → common_node p.grammar c u ≡ Some t → ⊥
  no_common c types.Null t s e = cc
  no_common c types.Empty t s e = cc
  no_common c (types.Of kinds.Truth) t s e = cc
  no_common c (types.Of kinds.Int) t s e = cc
  no_common c (types.Of kinds.Text) t s e = cc
  no_common c (types.Of (kinds.Node d)) t s e = cc
  no_common c (types.Of kinds.Texts) t s e = cc
  no_common c (types.Of (kinds.Nodes d)) t s e = cc

  common_node_right : (c : ClassId) (u t : ValueType) → common_node p.grammar c u ≡ Some t → (v : Value) → IsOf u v → IsOf t v
  common_node_right c _ t e _ (of_truth b) = cc
  common_node_right c _ t e _ (of_int z h) = cc
  common_node_right c _ t e _ (of_text s h) = cc
  common_node_right c _ t e _ (of_node d r h) =
      let s = some_of class_of_number (nearest_common (superclasses_of p.grammar) c.0 d.0) t e in
      let above : ClassId = record { 0 = s.0 } in
      subst (λ (x : ValueType). IsOf x (Node r)) s.2 (of_node above r (ref_above d above r (common_sub (superclasses_of p.grammar) c.0 d.0 s.0 s.1).1 h))
  common_node_right c _ t e _ of_null = let same : of_class c ≡ t = cc in subst (λ (x : ValueType). IsOf x (Node Null)) same (of_node c Null (null_ref c))
  common_node_right c _ t e _ (of_set u v s h) = absurd (no_common c u t s e)

  pub common_right : (s u t : ValueType) → common p.grammar s u ≡ Some t → (v : Value) → IsOf u v → IsOf t v
  common_right types.Null u t e v h = subst (λ (x : ValueType). IsOf x v) (where_some (is_node u) u t e).1 h
  common_right types.Empty u t e v h = subst (λ (x : ValueType). IsOf x v) (where_some (is_set u) u t e).1 h
  common_right (types.Of kinds.Truth) u t e v h = subst (λ (x : ValueType). IsOf x v) (where_some (is_truth u) u t e).1 h
  common_right (types.Of kinds.Int) u t e v h = subst (λ (x : ValueType). IsOf x v) (where_some (is_int u) u t e).1 h
  common_right (types.Of kinds.Text) u t e v h = subst (λ (x : ValueType). IsOf x v) (where_some (is_text u) u t e).1 h
  common_right (types.Of (kinds.Node c)) u t e v h = common_node_right c u t e v h
  common_right (types.Of kinds.Texts) u t e v h = widened u t v (or_left (is_texts u) _ (where_some (is_texts u) (types.Of kinds.Texts) t e).0) (wider_right (types.Of kinds.Texts) u t refl e) h
  common_right (types.Of (kinds.Nodes c)) u t e v h = widened u t v (common_nodes_set c u t e) (nodes_right c u t e) h
    where
      common_nodes_set : (d : ClassId) (w x : ValueType) → common_nodes p.grammar d w ≡ Some x → is_set w ≡ true
      common_nodes_set d types.Null x f = cc
      common_nodes_set d types.Empty x f = refl
      common_nodes_set d (types.Of kinds.Truth) x f = cc
      common_nodes_set d (types.Of kinds.Int) x f = cc
      common_nodes_set d (types.Of kinds.Text) x f = cc
      common_nodes_set d (types.Of (kinds.Node b)) x f = cc
      common_nodes_set d (types.Of kinds.Texts) x f = cc
      common_nodes_set d (types.Of (kinds.Nodes b)) x f = refl

  -- no set fits a class
  no_fit : (c : ClassId) (t : ValueType) → is_set t ≡ true → fits_class p.grammar t c ≡ true → ⊥
  no_fit c types.Null s e = cc
  no_fit c types.Empty s e = cc
  no_fit c (types.Of kinds.Truth) s e = cc
  no_fit c (types.Of kinds.Int) s e = cc
  no_fit c (types.Of kinds.Text) s e = cc
  no_fit c (types.Of (kinds.Node d)) s e = cc
  no_fit c (types.Of kinds.Texts) s e = cc
  no_fit c (types.Of (kinds.Nodes d)) s e = cc

  -- a value of a type that fits a class is null, or a node of it
  fits_node : (c : ClassId) (t : ValueType) → fits_class p.grammar t c ≡ true → (v : Value) → IsOf t v → IsOf (of_class c) v
  fits_node c _ e _ (of_truth b) = cc
  fits_node c _ e _ (of_int z h) = cc
  fits_node c _ e _ (of_text t h) = cc
  fits_node c _ e _ (of_node d r h) = of_node c r (ref_above d c r e h)
  fits_node c _ e _ of_null = of_node c Null (null_ref c)
  fits_node c _ e _ (of_set t v s h) = absurd (no_fit c t s e)

  -- and of one that fits a set of nodes of a class has such nodes alone
  fits_set : (c : ClassId) (t : ValueType) → fits_nodes p.grammar t c ≡ true → (v : Value) → IsOf t v → IsOf (of_nodes c) v
  fits_set c types.Null e v h = cc
  fits_set c types.Empty e v h = widened types.Empty (of_nodes c) v refl (wider_empty (of_nodes c) refl) h
  fits_set c (types.Of kinds.Truth) e v h = cc
  fits_set c (types.Of kinds.Int) e v h = cc
  fits_set c (types.Of kinds.Text) e v h = cc
  fits_set c (types.Of (kinds.Node d)) e v h = cc
  fits_set c (types.Of kinds.Texts) e v h = cc
  fits_set c (types.Of (kinds.Nodes d)) e v h = widened (of_nodes d) (of_nodes c) v refl (wider_class d c e) h

  -- a value of a type that fits another is of the other
  pub fitting : (k : Kind) (t : ValueType) → fits p.grammar t k ≡ true → (v : Value) → IsOf t v → IsOf (types.Of k) v
  fitting kinds.Truth t e v h = subst (λ (x : ValueType). IsOf x v) (sym (truth_type t e)) h
  fitting kinds.Int t e v h = subst (λ (x : ValueType). IsOf x v) (sym (int_type t e)) h
  fitting kinds.Text t e v h = subst (λ (x : ValueType). IsOf x v) (sym (text_type t e)) h
  fitting (kinds.Node c) t e v h = fits_node c t e v h
  fitting kinds.Texts t e v h = widened t (types.Of kinds.Texts) v (or_left (is_texts t) _ e) (wider_texts t e) h
  fitting (kinds.Nodes c) t e v h = fits_set c t e v h

  -- a value is of the type at which its own is kept
  pub kept : (t : ValueType) (v : Value) → IsOf t v → IsOf (types.Of (kept_kind t)) v
  kept types.Null v h = null_kept v h
    where
      null_kept : (w : Value) → IsOf types.Null w → IsOf (of_class (record { 0 = 0 })) w
      null_kept _ of_null = of_node (record { 0 = 0 }) Null (null_ref (record { 0 = 0 }))
      null_kept _ (of_set _ _ s i) = cc
  kept types.Empty v h = widened types.Empty (types.Of kinds.Texts) v refl (wider_empty (types.Of kinds.Texts) refl) h
  kept (types.Of k) v h = h

  -- what is made of two sets of a type is of the type
  made_texts : (o : SetOperator) (t : ValueType) → is_set t ≡ true → (v w : Value) → HasElements t v → HasElements t w → IsOf t (Texts (combined o (texts v) (texts w)))
  made_texts o t e v w g h =
      of_set t _ e (record {
        text = λ q i. elim (combined_from texts_total code_anti o (texts v) (texts w) q i) [
          | inl a ↦ g.text q a
          | inr b ↦ h.text q b
        ];
        node = λ n i. absurd (none_has node_cmp n i);
      })

  made_nodes : (o : SetOperator) (t : ValueType) → is_set t ≡ true → (v w : Value) → HasElements t v → HasElements t w → IsOf t (Nodes (combined o (nodes v) (nodes w)))
  made_nodes o t e v w g h =
      of_set t _ e (record {
        text = λ q i. absurd (none_has text_cmp q i);
        node = λ n i. elim (combined_from node_total node_anti o (nodes v) (nodes w) n i) [
          | inl a ↦ g.node n a
          | inr b ↦ h.node n b
        ];
      })

  pub sets_keep : (o : SetOperator) (t : ValueType) → is_set t ≡ true → (v w : Value) → IsOf t v → IsOf t w → IsOf t (set_operate o (kept_kind t) v w)
  sets_keep o types.Null e v w g h = cc
  sets_keep o types.Empty e v w g h = made_texts o types.Empty e v w (elements_in types.Empty v e g) (elements_in types.Empty w e h)
  sets_keep o (types.Of kinds.Truth) e v w g h = cc
  sets_keep o (types.Of kinds.Int) e v w g h = cc
  sets_keep o (types.Of kinds.Text) e v w g h = cc
  sets_keep o (types.Of (kinds.Node c)) e v w g h = cc
  sets_keep o (types.Of kinds.Texts) e v w g h = made_texts o (types.Of kinds.Texts) e v w (elements_in (types.Of kinds.Texts) v e g) (elements_in (types.Of kinds.Texts) w e h)
  sets_keep o (types.Of (kinds.Nodes c)) e v w g h = made_nodes o (of_nodes c) e v w (elements_in (of_nodes c) v e g) (elements_in (of_nodes c) w e h)

  -- the set of one element
  single_text : (t : List ℕ) → U.texts t → IsOf (types.Of kinds.Texts) (Texts (set_of (t ∷ [])))
  single_text t h = of_set (types.Of kinds.Texts) _ refl (record { text = λ q i. subst U.texts (sym (only_one texts_total code_anti t q i)) h; node = λ n i. absurd (none_has node_cmp n i) })

  single_node : (c : ClassId) (r : Reference) → IsRefOf c r → IsOf (of_nodes c) (single (Node r))
  single_node c Null h = no_nodes (of_nodes c) refl
  single_node c (At m) h =
      of_set (of_nodes c) _ refl (record { text = λ q i. absurd (none_has text_cmp q i); node = λ n i. subst (λ (x : NodeName). IsRefOf c (At x)) (sym (only_one node_total node_anti m n i)) h })

  -- there is none of a set
  no_set_of : (t u : ValueType) → is_set t ≡ true → set_of_type t ≡ Some u → ⊥
  no_set_of types.Null u s e = cc
  no_set_of types.Empty u s e = cc
  no_set_of (types.Of kinds.Truth) u s e = cc
  no_set_of (types.Of kinds.Int) u s e = cc
  no_set_of (types.Of kinds.Text) u s e = cc
  no_set_of (types.Of (kinds.Node c)) u s e = cc
  no_set_of (types.Of kinds.Texts) u s e = cc
  no_set_of (types.Of (kinds.Nodes c)) u s e = cc

  pub single_keeps : (t u : ValueType) → set_of_type t ≡ Some u → (v : Value) → IsOf t v → IsOf u (single v)
  single_keeps _ u e _ (of_truth b) = cc
  single_keeps _ u e _ (of_int z h) = cc
  single_keeps _ u e _ (of_text t h) = let same : types.Of kinds.Texts ≡ u = cc in subst (λ (x : ValueType). IsOf x (single (Text t))) same (single_text t h)
  single_keeps _ u e _ (of_node c r h) = let same : of_nodes c ≡ u = cc in subst (λ (x : ValueType). IsOf x (single (Node r))) same (single_node c r h)
  single_keeps _ u e _ of_null = let same : types.Empty ≡ u = cc in subst (λ (x : ValueType). IsOf x (single (Node Null))) same (no_nodes types.Empty refl)
  single_keeps _ u e _ (of_set t v s h) = absurd (no_set_of t u s e)

  -- values of a type
  abbrev pub AreOf : ValueType → List Value → Type 0
  AreOf t [] = Unit {0}
  AreOf t (v ∷ vs) = IsOf t v × AreOf t vs

  -- values that elements stand for
  each_of : {K : Type 0} {R : K → K → Ordering} (o : IsTotalOrder R) (t : ValueType) (f : K → Value) (xs : List K) → ((q : K) → list_any (eq_by_cmp R q) xs ≡ true → IsOf t (f q)) → AreOf t (map f xs)
  each_of o t f [] h = tt
  each_of {R = R} o t f (x ∷ xs) h = (h x (or_left (eq_by_cmp R x x) _ (ap is_eq (tied_itself o x))), each_of o t f xs (λ q e. h q (or_right (eq_by_cmp R q x) _ e)))

  -- the type of a set's elements is that of its elements
  text_in : (t : ValueType) (k : Kind) → element_of_type t ≡ Some k → (q : List ℕ) → IsTextIn t q → IsOf (types.Of k) (Text q)
  text_in types.Null k e q h = cc
  text_in types.Empty k e q h = cc
  text_in (types.Of kinds.Truth) k e q h = cc
  text_in (types.Of kinds.Int) k e q h = cc
  text_in (types.Of kinds.Text) k e q h = cc
  text_in (types.Of (kinds.Node c)) k e q h = cc
  text_in (types.Of kinds.Texts) k e q h = let same : kinds.Text ≡ k = cc in subst (λ (x : Kind). IsOf (types.Of x) (Text q)) same (of_text q h)
  text_in (types.Of (kinds.Nodes c)) k e q h = absurd h

  node_in : (t : ValueType) (k : Kind) → element_of_type t ≡ Some k → (n : NodeName) → IsNodeIn t n → IsOf (types.Of k) (Node (At n))
  node_in types.Null k e n h = cc
  node_in types.Empty k e n h = cc
  node_in (types.Of kinds.Truth) k e n h = cc
  node_in (types.Of kinds.Int) k e n h = cc
  node_in (types.Of kinds.Text) k e n h = cc
  node_in (types.Of (kinds.Node c)) k e n h = cc
  node_in (types.Of kinds.Texts) k e n h = absurd h
  node_in (types.Of (kinds.Nodes c)) k e n h = let same : kinds.Node c ≡ k = cc in subst (λ (x : Kind). IsOf (types.Of x) (Node (At n))) same (of_node c (At n) h)

  set_with : (t : ValueType) (k : Kind) → element_of_type t ≡ Some k → is_set t ≡ true
  set_with types.Null k e = cc
  set_with types.Empty k e = cc
  set_with (types.Of kinds.Truth) k e = cc
  set_with (types.Of kinds.Int) k e = cc
  set_with (types.Of kinds.Text) k e = cc
  set_with (types.Of (kinds.Node c)) k e = cc
  set_with (types.Of kinds.Texts) k e = refl
  set_with (types.Of (kinds.Nodes c)) k e = refl

  listed : (t : ValueType) (k : Kind) → element_of_type t ≡ Some k → (v : Value) → HasElements t v → AreOf (types.Of k) (elements_of v)
  listed t k e (Truth b) h = tt
  listed t k e (Int z) h = tt
  listed t k e (Text q) h = tt
  listed t k e (Node r) h = tt
  listed t k e (Tree r ts) h = tt
  listed t k e (Texts s) h = each_of texts_total (types.Of k) Text (elements s) (λ q i. text_in t k e q (h.text q (contains_key-keys s q ∙ i)))
  listed t k e (Nodes s) h = each_of node_total (types.Of k) node_at (elements s) (λ n i. node_in t k e n (h.node n (contains_key-keys s n ∙ i)))

  pub elements_keep : (t : ValueType) (k : Kind) → element_of_type t ≡ Some k → (v : Value) → IsOf t v → AreOf (types.Of k) (elements_of v)
  elements_keep t k e v h = listed t k e v (elements_in t v (set_with t k e) h)

  -- a value whose nodes are among them
  abbrev pub HasNodes : Value → Type 0
  HasNodes (Truth b) = Unit {0}
  HasNodes (Int z) = Unit {0}
  HasNodes (Text t) = Unit {0}
  HasNodes (Node r) = HasReference U.nodes r
  HasNodes (Texts s) = Unit {0}
  HasNodes (Nodes s) = (n : NodeName) → has s n ≡ true → U.nodes n
  HasNodes (Tree r ts) = HasReference U.nodes r

  argument_nodes : (x : Argument) → HasArgument U.nodes x → HasNodes (argument_value x)
  argument_nodes (OfTruth b) h = tt
  argument_nodes (OfInt z) h = tt
  argument_nodes (OfText t) h = tt
  argument_nodes (OfNode r) h = h

  -- a value of a type, whose nodes are among them
  abbrev pub IsValueIn : Kind → Value → Type 0
  IsValueIn k v = IsValue p k v × HasNodes v

  -- where integers and texts are values, a value of a type, read at it, is one
  module _ (wrapped : (z : ℤ) → U.ints z → int_wrap w32 z ≡ z) (known : (t : List ℕ) → U.texts t → Contains p.texts t) where
    pub value_read : (k : Kind) (v : Value) → IsOf (types.Of k) v → IsValueIn k (as_kind k v)
    value_read _ _ (of_truth b) = (truth_value b, tt)
    value_read _ _ (of_int z h) = (int_value z (wrapped z h), tt)
    value_read _ _ (of_text t h) = (text_value t (known t h), tt)
    value_read _ _ (of_node c r h) = (node_value c r h.0, h.1)
    value_read k v (of_set _ _ s h) = set_read k s h
      where
        set_read : (j : Kind) → is_set (types.Of j) ≡ true → HasElements (types.Of j) v → IsValueIn j (as_kind j v)
        set_read kinds.Truth e i = cc
        set_read kinds.Int e i = cc
        set_read kinds.Text e i = cc
        set_read (kinds.Node c) e i = cc
        set_read kinds.Texts e i = (texts_value (texts v) (λ t a. known t (i.text t a)), tt)
        set_read (kinds.Nodes c) e i = (nodes_value c (nodes v) (λ n a. (i.node n a).0), λ n a. (i.node n a).1)

    -- and so is the argument that it is
    pub argument_of : (k : Kind) → is_single k ≡ true → (v : Value) → IsOf (types.Of k) v → IsValueIn k (argument_value (as_argument k v))
    argument_of _ e _ (of_truth b) = (truth_value b, tt)
    argument_of _ e _ (of_int z h) = (int_value z (wrapped z h), tt)
    argument_of _ e _ (of_text t h) = (text_value t (known t h), tt)
    argument_of _ e _ (of_node c r h) = (node_value c r h.0, h.1)
    argument_of k e v (of_set _ _ s h) = absurd (single_no_set k e s)

  -- a value, read at its type, is of it where its integers, texts and nodes are among them
  module _ (wrapped : (z : ℤ) → int_wrap w32 z ≡ z → U.ints z) (known : (t : List ℕ) → Contains p.texts t → U.texts t) where
    pub of_value : (k : Kind) (v : Value) → IsValue p k v → HasNodes v → IsOf (types.Of k) (as_kind k v)
    of_value _ _ (truth_value b) i = of_truth b
    of_value _ _ (int_value z h) i = of_int z (wrapped z h)
    of_value _ _ (text_value t h) i = of_text t (known t h)
    of_value _ _ (node_value c r h) i = of_node c r (h, i)
    of_value _ _ (texts_value s h) i = of_set (types.Of kinds.Texts) (Texts s) refl (record { text = λ q a. known q (h q a); node = λ n a. absurd (none_has node_cmp n a) })
    of_value _ _ (tree_value c r ts h) i = of_node c r (h.root, i)
    of_value _ _ (nodes_value c s h) i = of_set (of_nodes c) (Nodes s) refl (record { text = λ q a. absurd (none_has text_cmp q a); node = λ n a. (h n a, i n a) })

    -- an argument is of its type as it stands
    pub of_argument : (k : Kind) (x : Argument) → IsValue p k (argument_value x) → HasArgument U.nodes x → IsOf (types.Of k) (argument_value x)
    of_argument k x h i = subst (IsOf (types.Of k)) (read_same p k (argument_value x) h (no_tree x)) (of_value k (argument_value x) h (argument_nodes x i))
