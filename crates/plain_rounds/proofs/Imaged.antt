-- Values beside which trees stand: such a one is the node at the root.
use Rattle.std.proofs.Common.{◌≡◌, List, Option, Some, None, refl, sym, ap, subst, ◌∙◌}
use Rattle.attr_rules.specs.declared.kinds.Kind.{Kind}
use Rattle.attr_rules.specs.declared.kinds.Kind.TheVariants as kinds
use Rattle.equation_law.specs.declared.coding.NodeRef.{NodeRef}
use Rattle.equation_law.specs.declared.coding.TreeImage.{TreeImage}
use Rattle.equation_law.specs.declared.coding.Value.{Value as CodedValue}
use Rattle.equation_law.specs.declared.coding.Value.TheVariants as coded
use Rattle.equation_law.specs.Codes.{Naming, value_by}
use Rattle.equation_law.specs.Names.{Argument, Reference}
use Rattle.equation_law.specs.Program.{Program}
use Rattle.equation_law.specs.Values.{Node, Tree, Value, as_kind, node}
use Rattle.plain_rounds.specs.Named.{with_image}
use Rattle.plain_rounds.specs.Places.{IsImaged}
use Rattle.plain_rounds.specs.Rooms.{height}

module _ (p : Program) (n : Naming) where
  root_alike : (k : Kind) (r : Reference) (ts : List Argument) → as_kind k (Tree r ts) ≡ as_kind k (Node r)
  root_alike kinds.Truth r ts = refl
  root_alike kinds.Int r ts = refl
  root_alike kinds.Text r ts = refl
  root_alike (kinds.Node c) r ts = refl
  root_alike kinds.Texts r ts = refl
  root_alike (kinds.Nodes c) r ts = refl

  -- it is read as the value
  pub read_alike : (k : Kind) (v : CodedValue) (o : Option TreeImage) → IsImaged p v o → as_kind k (with_image p n (value_by n v) o) ≡ as_kind k (value_by n v)
  read_alike k v None h = refl
  read_alike k v (Some t) h = subst (λ (x : CodedValue). as_kind k (with_image p n (value_by n x) (Some t)) ≡ as_kind k (value_by n x)) (sym h.node) (root_alike k _ _)

  pub node_alike : (v : Value) (o : Option TreeImage) → node (with_image p n v o) ≡ node v
  node_alike v None = refl
  node_alike v (Some t) = refl

  pub height_alike : (v : CodedValue) (o : Option TreeImage) → IsImaged p v o → height (with_image p n (value_by n v) o) ≡ height (value_by n v)
  height_alike v None h = refl
  height_alike v (Some t) h = subst (λ (x : CodedValue). height (with_image p n (value_by n x) (Some t)) ≡ height (value_by n x)) (sym h.node) refl

  -- what stands for a node is one
  pub node_copied : (v w : CodedValue) → value_by n v ≡ value_by n w → (r : NodeRef) → w ≡ coded.Node r → (s : NodeRef) × (v ≡ coded.Node s)
  node_copied (coded.Truth b) w e r is = absurd (let wrong : value_by n (coded.Truth b) ≡ value_by n (coded.Node r) = e ∙ ap (value_by n) is in cc)
  node_copied (coded.Int z) w e r is = absurd (let wrong : value_by n (coded.Int z) ≡ value_by n (coded.Node r) = e ∙ ap (value_by n) is in cc)
  node_copied (coded.Text k) w e r is = absurd (let wrong : value_by n (coded.Text k) ≡ value_by n (coded.Node r) = e ∙ ap (value_by n) is in cc)
  node_copied (coded.Node s) w e r is = (s, refl)
  node_copied (coded.Texts cs) w e r is = absurd (let wrong : value_by n (coded.Texts cs) ≡ value_by n (coded.Node r) = e ∙ ap (value_by n) is in cc)
  node_copied (coded.Nodes cs) w e r is = absurd (let wrong : value_by n (coded.Nodes cs) ≡ value_by n (coded.Node r) = e ∙ ap (value_by n) is in cc)

  pub imaged_copied : (v w : CodedValue) (o : Option TreeImage) → value_by n v ≡ value_by n w → IsImaged p w o → IsImaged p v o
  imaged_copied v w None e h = tt
  imaged_copied v w (Some t) e h = let copied = node_copied v w e h.root h.node in record { making = h.making; is = h.is; all = h.all; codes = h.codes; root = copied.0; node = copied.1 }
