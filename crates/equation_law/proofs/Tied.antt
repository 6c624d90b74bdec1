-- Codes that are tied: each naming for the program gives them one name. Those of source nodes are, and a program that makes nothing has no other
-- nodes.
use Rattle.std.proofs.Common.{◌≡◌, ℕ, suc, true, ◌<◌, List, [], ◌∷◌, Option, Some, None, length, slice_get, refl, sym, ap, ◌∙◌, subst, arith}
use Rattle.ast_grammar.specs.declared.grammar.ClassId.{ClassId}
use Rattle.std.specs.Option.{option_and_then}
use Rattle.attr_equations.proofs.BodiesFound.{body_is}
use Rattle.attr_rules.specs.Rules.{Equation, equation_number}
use Rattle.attr_rules.specs.declared.kinds.Kind.{Kind}
use Rattle.attr_rules.specs.declared.kinds.Kind.TheVariants as kinds
use Rattle.equation_law.specs.declared.coding.Instance.{Instance as CodedInstance}
use Rattle.equation_law.specs.declared.coding.Instance.TheVariants as coded
use Rattle.tree_arena.specs.Nodes.{most_nodes}
use Rattle.equation_law.specs.Checked.{AreArguments, HasSourcesAlone, IsInstance, IsNode, IsNodeOf, IsValue, at, null, of_attribute}
use Rattle.equation_law.specs.Codes.{AreArgumentCodes, ByEachNaming, IsNamingOf, IsReference, IsValueCode, Naming, arguments_by, codes_in, instance_by, reference_by, reference_of, source_names, value_coded}
use Rattle.equation_law.specs.Created.{Making, making_in, tree_or_none}
use Rattle.equation_law.specs.Keys.{HasCode, IsElementCode}
use Rattle.equation_law.specs.Names.{Argument, At, Attribute, Instance, Made, NodeName, Null, OfNode, OfText, Reference, Row, Source}
use Rattle.equation_law.specs.Program.{Program, attribute_parameters, class_at, kinds_or_none, making_at, making_of, text_of, tree_made}
use Rattle.equation_law.specs.Values.{Node, Text, Value, argument_value, as_argument, has_node, nodes}
use Rattle.equation_law.proofs.Checked.{of_kind}
use Rattle.equation_law.proofs.Codes.{one_reference, sources_named, sources_named_by}

module _ (p : Program) where
  -- what holds by each naming holds by the names of source nodes
  pub at_sources : (holds : Naming → Type 0) → ByEachNaming p holds → holds (source_names (text_of p))
  at_sources holds h = h (source_names (text_of p)) (sources_named p)

  -- a code is tied to one reference, and a reference has one such code
  pub one_tied : (c : ℕ) (r s : Reference) → IsReference p c r → IsReference p c s → r ≡ s
  one_tied c r s g h = sym (at_sources _ g) ∙ at_sources _ h

  pub one_tied_code : (c d : ℕ) (r : Reference) → IsReference p c r → IsReference p d r → c ≡ d
  one_tied_code c d r g h = one_reference (sources_named p) c d (at_sources (λ n. reference_by n.node c ≡ r) g ∙ sym (at_sources (λ n. reference_by n.node d ≡ r) h))

  -- by two namings a number stands for one text
  same_text : {n m : Naming} → IsNamingOf p n → IsNamingOf p m → (c : ℕ) → n.text c ≡ m.text c
  same_text h g c = ap (λ (f : ℕ → List ℕ). f c) (h.texts ∙ sym g.texts)

  -- what is tied to a node of the class is its code
  pub element_node : (d : ClassId) (c : ℕ) → IsElementCode p (kinds.Nodes d) c → IsNodeOf p d (reference_of c)
  element_node d c h = subst (IsNodeOf p d) (sym (at_sources (λ n. reference_by n.node c ≡ h.1.0) h.1.1)) h.1.2

  -- the node that a code is tied to is in a set where it is by one naming
  pub tied_has : (d : ClassId) (x : Value) (c : ℕ) (r : Reference) → IsReference p c r → has_node (nodes x) r ≡ true → HasCode p (kinds.Nodes d) x c
  tied_has d x c r tied e m g = ap (has_node (nodes x)) (tied m g) ∙ e

  pub has_tied : (d : ClassId) (x : Value) (c : ℕ) (r : Reference) → IsReference p c r → HasCode p (kinds.Nodes d) x c → has_node (nodes x) r ≡ true
  has_tied d x c r tied h = ap (has_node (nodes x)) (sym (at_sources (λ n. reference_by n.node c ≡ r) tied)) ∙ at_sources (λ n. has_node (nodes x) (reference_by n.node c) ≡ true) h

-- in a program whose nodes are those of its tree alone
module _ (p : Program) (bare : HasSourcesAlone p) where
  -- no attribute makes a tree at a node
  never_making : (a : ℕ) (c : ClassId) → making_at p a c ≡ None
  never_making a c = by (equation_number p.rules c a) refl
    where
      found : (k : ℕ) (o : Option Equation) → slice_get p.rules.equations k ≡ o → option_and_then (λ (e : Equation). making_in e.body) o ≡ None
      found k None e = refl
      found k (Some q) e = bare.nothing k q.body (body_is p.rules k q e)

      by : (o : Option ℕ) → equation_number p.rules c a ≡ o → option_and_then (λ (e : Equation). making_in e.body) (option_and_then (slice_get p.rules.equations) o) ≡ None
      by None e = refl
      by (Some k) e = found k (slice_get p.rules.equations k) refl

  pub never_makes : (a : ℕ) (r : Reference) → making_of p a r ≡ None
  never_makes a Null = refl
  never_makes a (At n) = at (class_at p n)
    where
      at : (o : Option ClassId) → option_and_then (making_at p a) o ≡ None
      at None = refl
      at (Some c) = never_making a c

  -- nothing was made
  pub never_made : {A : Type 0} (a : ℕ) (r : Reference) (xs : Row) (q : ℕ) → IsNode p (Made a r xs q) → A
  never_made a r xs q is =
      let within = is.5 in
      let none : length (tree_made p a r) ≡ 0 = ap (λ (o : Option Making). length (tree_or_none o)) (never_makes a r) in
      absurd (omega (arith, within, none))

  -- so a node is a source node
  pub source_alone : (n : NodeName) → IsNode p n → (k : ℕ) × (k < length p.tree) × (n ≡ Source k)
  source_alone (Source k) is = (k, is, refl)
  source_alone (Made a r xs q) is = never_made a r xs q is

  module _ {n : Naming} (h : IsNamingOf p n) where
    -- a code that some naming gives a source node of the program, or null, is tied to it
    pub source_tied : (k c : ℕ) → k < length p.tree → reference_by n.node c ≡ At (Source k) → IsReference p c (At (Source k))
    source_tied k c within e m g =
        let low : k < most_nodes = let few = bare.few in omega (arith, within, few) in
        ap (reference_by m.node) (one_reference h c (suc k) (e ∙ sym (sources_named_by h k low))) ∙ sources_named_by g k low

    node_is_tied : (d : ClassId) (c : ℕ) (r : Reference) → reference_by n.node c ≡ r → IsNodeOf p d r → IsReference p c r
    node_is_tied d c _ e null m g = ap (reference_by m.node) (one_reference h c 0 e)
    node_is_tied d c _ e (at {n = x} a) m g =
        let its = source_alone x a.there in
        source_tied its.0 c its.1 (e ∙ ap At its.2) m g ∙ sym (ap At its.2)

    pub node_tied : (d : ClassId) (c : ℕ) → IsNodeOf p d (reference_by n.node c) → IsReference p c (reference_by n.node c)
    node_tied d c is = node_is_tied d c (reference_by n.node c) refl is

    -- so is that of a value of a type
    pub value_tied : (k : Kind) (c : ℕ) → IsValue p k (value_coded n k c) → IsValueCode p k c (value_coded n k c)
    value_tied kinds.Truth c is m g = refl
    value_tied kinds.Int c is m g = refl
    value_tied kinds.Text c is m g = ap Text (same_text p g h c)
    value_tied (kinds.Node d) c is m g = ap Node (node_tied d c (of_kind p (kinds.Node d) (Node (reference_by n.node c)) is) m g)
    value_tied kinds.Texts c is m g = refl
    value_tied (kinds.Nodes d) c is m g = refl

    argument_tied : (k : Kind) (c : ℕ) → IsValue p k (argument_value (as_argument k (value_coded n k c))) → ByEachNaming p (λ m. as_argument k (value_coded m k c) ≡ as_argument k (value_coded n k c))
    argument_tied kinds.Truth c is m g = refl
    argument_tied kinds.Int c is m g = refl
    argument_tied kinds.Text c is m g = ap OfText (same_text p g h c)
    argument_tied (kinds.Node d) c is m g = ap OfNode (node_tied d c (of_kind p (kinds.Node d) (Node (reference_by n.node c)) is) m g)
    argument_tied kinds.Texts c is m g = refl
    argument_tied (kinds.Nodes d) c is m g = refl

    -- and those of arguments
    pub arguments_tied : (ks : List Kind) (cs : List ℕ) → AreArguments p ks (arguments_by n ks cs) → AreArgumentCodes p ks cs (arguments_by n ks cs)
    arguments_tied [] cs are m g = refl
    arguments_tied (k ∷ ks) [] are m g = refl
    arguments_tied (k ∷ ks) (c ∷ cs) are m g = (λ i. argument_tied k c are.0 m g i ∷ arguments_tied ks cs are.1 m g i)

    instance_parts : (a : ℕ) (r : Reference) (xs : List Argument) → IsInstance p (Attribute a r xs) → (k : ℕ) × (k < length p.tree) × (r ≡ At (Source k)) × AreArguments p (attribute_parameters p a) xs
    instance_parts a _ xs (of_attribute {n = x} d declared stands are) =
        let its = source_alone x stands.there in
        (its.0, its.1, ap At its.2, subst (λ (ks : List Kind). AreArguments p ks xs) (sym (ap kinds_or_none declared)) are)

    -- the codes of an attribute that is one of the program by some naming are tied to its node and arguments
    pub attribute_tied : (a c : ℕ) (cs : List ℕ) → IsInstance p (Attribute a (reference_by n.node c) (arguments_by n (attribute_parameters p a) cs))
        → IsReference p c (reference_by n.node c) × AreArgumentCodes p (attribute_parameters p a) cs (arguments_by n (attribute_parameters p a) cs)
    attribute_tied a c cs is =
        let its = instance_parts a (reference_by n.node c) (arguments_by n (attribute_parameters p a) cs) is in
        ((λ m g. source_tied its.0 c its.1 its.2 m g ∙ sym its.2), arguments_tied (attribute_parameters p a) cs its.3)

    -- so a coded instance that is one of the program by some naming is that one by each
    pub instance_tied : (i : CodedInstance) → IsInstance p (instance_by p n i) → ByEachNaming p (λ m. instance_by p m i ≡ instance_by p n i)
    instance_tied (coded.Attr a c xs) is m g =
        let tied = attribute_tied a.0 c.0 (codes_in xs) is in
        (λ i. Attribute a.0 (tied.0 m g i) (tied.1 m g i))
    instance_tied (coded.Query q) is m g = refl

    -- what holds of it by that naming holds by each
    pub instance_each : (holds : Instance → Type 0) (i : CodedInstance) → IsInstance p (instance_by p n i) → holds (instance_by p n i) → ByEachNaming p (λ m. holds (instance_by p m i))
    instance_each holds i is has m g = subst holds (sym (instance_tied i is m g)) has

  -- a code of a node of the class is tied to it
  pub node_element : (d : ClassId) (c : ℕ) → 0 < c → IsNodeOf p d (reference_of c) → IsElementCode p (kinds.Nodes d) c
  node_element d c low is = (low, (reference_of c, node_tied (sources_named p) d c is, is))

  pub source_has : (d : ClassId) (x : Value) (c : ℕ) → IsNodeOf p d (reference_of c) → has_node (nodes x) (reference_of c) ≡ true → HasCode p (kinds.Nodes d) x c
  source_has d x c is e = tied_has p d x c (reference_of c) (node_tied (sources_named p) d c is) e
