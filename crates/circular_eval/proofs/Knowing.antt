-- What a pass knows, as a reader tells it that knows the same nodes.
use Rattle.std.proofs.Common.{◌≡◌, ℕ, zero, suc, ◌≤◌, true, List, [], ◌∷◌, sym, ap, subst, ◌∙◌, arith}
use Rattle.std.specs.List.{All}
use Rattle.std.proofs.lemmas.Cmp.{eq_by_cmp_equiv, nat_cmp_total}
use Rattle.std.proofs.lemmas.Map.Views.{All-from_any}
use Rattle.attr_rules.specs.declared.kinds.Kind.{Kind}
use Rattle.attr_rules.specs.declared.kinds.Kind.TheVariants as kinds
use Rattle.tree_arena.specs.Nodes.{most_nodes}
use Rattle.equation_law.specs.declared.coding.Instance.{Instance as CodedInstance}
use Rattle.equation_law.specs.declared.coding.Instance.TheVariants as coded_instance
use Rattle.equation_law.specs.declared.coding.Value.{Value as CodedValue}
use Rattle.equation_law.specs.declared.coding.Value.TheVariants as coded
use Rattle.equation_law.specs.Codes.{AreElements, Naming, codes_in, reference_by, source_names, value_by}
use Rattle.equation_law.specs.Names.{Source}
use Rattle.equation_law.specs.Program.{Program, attribute_parameters, text_of}
use Rattle.equation_law.specs.Reading.{AreKnownCodes as AreCodesTold, IsKnownCode as IsCodeTold, KnowsInstance, KnowsValue, Told}
use Rattle.equation_law.specs.Values.{has_node, nodes as nodes_in}
use Rattle.equation_law.proofs.Codes.{one_reference, sources_named}
use Rattle.memo_cells.specs.Agreeing.{AreKnownCodes, IsKnownCode, IsKnownInstance, IsKnownNode, IsKnownValue}
use Rattle.set_values.proofs.Coded.{holds_of}
use Rattle.set_values.proofs.NodeCodes.{has_node_by}
use Rattle.circular_eval.proofs.Rising.{node_coded}

-- null and the source nodes are known
pub source_known : (ms : List CodedInstance) (c : ℕ) → c ≤ most_nodes → IsKnownNode ms c
source_known ms c low = omega (arith, low)

module _ {S : Type 0} (t : Told S) (ms : List CodedInstance) where
  -- a reader that knows the nodes that are known by these makers
  module _ (knows : (c : ℕ) → IsKnownNode ms c → t.knows c) where
    code_told : (k : Kind) (c : ℕ) → IsKnownCode ms k c → IsCodeTold t k c
    code_told kinds.Truth c h = tt
    code_told kinds.Int c h = tt
    code_told kinds.Text c h = tt
    code_told (kinds.Node d) c h = knows c h
    code_told kinds.Texts c h = tt
    code_told (kinds.Nodes d) c h = tt

    codes_told : (ks : List Kind) (cs : List ℕ) → AreKnownCodes ms ks cs → AreCodesTold t ks cs
    codes_told [] cs h = tt
    codes_told (k ∷ ks) [] h = tt
    codes_told (k ∷ ks) (c ∷ cs) h = (code_told k c h.0, codes_told ks cs h.1)

    pub instance_told : (p : Program) (i : CodedInstance) → IsKnownInstance p ms i → KnowsInstance p t i
    instance_told p (coded_instance.Attr a n xs) h = (knows n.0 h.0, codes_told (attribute_parameters p a.0) (codes_in xs) h.1)
    instance_told p (coded_instance.Query q) h = tt

    pub value_told : (x : CodedValue) → IsKnownValue ms x → KnowsValue t x
    value_told (coded.Truth b) h = tt
    value_told (coded.Int z) h = tt
    value_told (coded.Text n) h = tt
    value_told (coded.Node n) h = knows n.0 h
    value_told (coded.Texts cs) h = tt
    value_told (coded.Nodes cs) h = λ k d low. knows _ (h k d low)

  -- and one that knows no others
  module _ (alone : (c : ℕ) → t.knows c → IsKnownNode ms c) where
    code_back : (k : Kind) (c : ℕ) → IsCodeTold t k c → IsKnownCode ms k c
    code_back kinds.Truth c h = tt
    code_back kinds.Int c h = tt
    code_back kinds.Text c h = tt
    code_back (kinds.Node d) c h = alone c h
    code_back kinds.Texts c h = tt
    code_back (kinds.Nodes d) c h = tt

    codes_back : (ks : List Kind) (cs : List ℕ) → AreCodesTold t ks cs → AreKnownCodes ms ks cs
    codes_back [] cs h = tt
    codes_back (k ∷ ks) [] h = tt
    codes_back (k ∷ ks) (c ∷ cs) h = (code_back k c h.0, codes_back ks cs h.1)

    pub instance_back : (p : Program) (i : CodedInstance) → KnowsInstance p t i → IsKnownInstance p ms i
    instance_back p (coded_instance.Attr a n xs) h = (alone n.0 h.0, codes_back (attribute_parameters p a.0) (codes_in xs) h.1)
    instance_back p (coded_instance.Query q) h = tt

    pub value_back : (x : CodedValue) → KnowsValue t x → IsKnownValue ms x
    value_back (coded.Truth b) h = tt
    value_back (coded.Int z) h = tt
    value_back (coded.Text n) h = tt
    value_back (coded.Node n) h = alone n.0 h
    value_back (coded.Texts cs) h = tt
    value_back (coded.Nodes cs) h = λ k d low. alone _ (h k d low)

-- the nodes in a copy of a value are known
module _ (p : Program) (ms : List CodedInstance) where
  abbrev plain : Naming
  plain = source_names (text_of p)

  code_among : (ds : List ℕ) → All (IsKnownNode ms) ds → (c : ℕ) → has_node (nodes_in (value_by plain (coded.Nodes ds))) (reference_by plain.node c) ≡ true → IsKnownNode ms c
  code_among ds known zero h = omega arith
  code_among ds known (suc k) h =
      let d = node_coded plain.node ds (Source k) h in
      let same : d.0 ≡ suc k = one_reference (sources_named p) d.0 (suc k) d.2 in
      subst (IsKnownNode ms) same (holds_of (IsKnownNode ms) ds known d.0 d.1)

  pub copy_known : (x y : CodedValue) → ((n : Naming) → value_by n y ≡ value_by n x) → AreElements p y → IsKnownValue ms x → IsKnownValue ms y
  copy_known x (coded.Truth b) same all h = tt
  copy_known x (coded.Int z) same all h = tt
  copy_known x (coded.Text n) same all h = tt
  copy_known (coded.Truth b) (coded.Node n) same all h = let e = same plain in cc
  copy_known (coded.Int z) (coded.Node n) same all h = let e = same plain in cc
  copy_known (coded.Text m) (coded.Node n) same all h = let e = same plain in cc
  copy_known (coded.Node m) (coded.Node n) same all h =
      let e = same plain in
      let there : reference_by plain.node n.0 ≡ reference_by plain.node m.0 = cc in
      subst (IsKnownNode ms) (sym (one_reference (sources_named p) n.0 m.0 there)) h
  copy_known (coded.Texts ds) (coded.Node n) same all h = let e = same plain in cc
  copy_known (coded.Nodes ds) (coded.Node n) same all h = let e = same plain in cc
  copy_known x (coded.Texts cs) same all h = tt
  copy_known (coded.Truth b) (coded.Nodes cs) same all h = let e = same plain in cc
  copy_known (coded.Int z) (coded.Nodes cs) same all h = let e = same plain in cc
  copy_known (coded.Text m) (coded.Nodes cs) same all h = let e = same plain in cc
  copy_known (coded.Node m) (coded.Nodes cs) same all h = let e = same plain in cc
  copy_known (coded.Texts ds) (coded.Nodes cs) same all h = let e = same plain in cc
  copy_known (coded.Nodes ds) (coded.Nodes cs) same all h =
      All-from_any (eq_by_cmp_equiv nat_cmp_total) (IsKnownNode ms) cs (λ c among.
      code_among ds h c (ap (λ v. has_node (nodes_in v) (reference_by plain.node c)) (sym (same plain)) ∙ has_node_by plain.node (sources_named p).one_code c cs all ∙ among))
