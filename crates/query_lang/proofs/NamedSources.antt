-- By a naming for a program a value whose nodes are source nodes is that by the names of source nodes.
use Rattle.std.proofs.Common.{◌≡◌, ℕ, zero, suc, true, ◌≤◌, List, [], ◌∷◌, ◌||◌, length, map, Result, Ok, Err, OnOk, arith, refl, sym, ap, subst, ◌∙◌}
use Rattle.std.specs.Cmp.{tied_itself}
use Rattle.std.specs.List.{list_any}
use Rattle.std.specs.Ordering.{eq_by_cmp, is_eq}
use Rattle.std.proofs.lemmas.Bool.{or_right}
use Rattle.rag_io.specs.declared.Memory.{Memory}
use Rattle.tree_arena.specs.Nodes.{most_nodes}
use Rattle.equation_law.specs.declared.coding.Value.{Value as CodedValue}
use Rattle.equation_law.specs.declared.coding.Value.TheVariants as coded
use Rattle.equation_law.specs.Codes.{IsNamingOf, Naming, nodes_by, nodes_of, reference_by, reference_of, value_by, value_of}
use Rattle.equation_law.specs.Names.{At, NodeName, Reference, Source, node_cmp, text_cmp}
use Rattle.equation_law.specs.Program.{Program, text_of}
use Rattle.equation_law.specs.Sets.{set_of}
use Rattle.equation_law.specs.Values.{Node, Nodes, Text, Texts}
use Rattle.equation_law.proofs.Orders.{node_total}
use Rattle.equation_law.proofs.Sets.{has-set_of}
use Rattle.query_lang.specs.Named.{AddsReplyBy, AreSources, IsSource, null, source}
use Rattle.query_lang.specs.Replies.{AddsReply}

module _ {p : Program} {n : Naming} (few : length p.tree ≤ most_nodes) (h : IsNamingOf p n) where
  -- the node of a code is the source node of its number, where it is a source node of the tree
  source_alike : (k : ℕ) (r : Reference) → r ≡ At (n.node k) → IsSource p r → n.node k ≡ Source k
  source_alike k _ e null = cc
  source_alike k _ e (source {k = j} within) =
      let same : n.node k ≡ Source j = cc in
      same ∙ ap Source (sym (h.one_code k j (same ∙ sym (h.sources j (omega (arith, within, few))))))

  node_alike : (k : ℕ) → IsSource p (At (n.node k)) → n.node k ≡ Source k
  node_alike k is = source_alike k (At (n.node k)) refl is

  reference_alike : (c : ℕ) → IsSource p (reference_by n.node c) → reference_by n.node c ≡ reference_of c
  reference_alike zero is = refl
  reference_alike (suc k) is = ap At (node_alike k is)

  -- so it is with the nodes of some codes
  nodes_alike : (cs : List ℕ) → ((x : NodeName) → list_any (eq_by_cmp node_cmp x) (nodes_by n.node cs) ≡ true → IsSource p (At x)) → nodes_by n.node cs ≡ nodes_of cs
  nodes_alike [] are = refl
  nodes_alike (zero ∷ cs) are = nodes_alike cs are
  nodes_alike (suc k ∷ cs) are =
      let others = nodes_by n.node cs in
      let first = node_alike k (are (n.node k) (ap (λ b. b || list_any (eq_by_cmp node_cmp (n.node k)) others) (ap is_eq (tied_itself node_total (n.node k))))) in
      let rest = nodes_alike cs (λ x e. are x (or_right (eq_by_cmp node_cmp x (n.node k)) (list_any (eq_by_cmp node_cmp x) others) e)) in
      (λ i. first i ∷ rest i)

  -- so a value is the same by both
  pub value_alike : (v : CodedValue) → AreSources p (value_by n v) → value_by n v ≡ value_of (text_of p) v
  value_alike (coded.Truth b) are = refl
  value_alike (coded.Int z) are = refl
  value_alike (coded.Text k) are = ap (λ (t : ℕ → List ℕ). Text (t k.0)) h.texts
  value_alike (coded.Node m) are = ap Node (reference_alike m.0 are)
  value_alike (coded.Texts cs) are = ap (λ (t : ℕ → List ℕ). Texts (set_of {R = text_cmp} (map t cs))) h.texts
  value_alike (coded.Nodes cs) are = ap (λ ns. Nodes (set_of {R = node_cmp} ns)) (nodes_alike cs (λ x e. are x (has-set_of node_total (nodes_by n.node cs) x ∙ e)))

-- so its text was added by each naming where it was by the names of source nodes
pub reply_named : (p : Program) → length p.tree ≤ most_nodes → (v : CodedValue) (old new : List ℕ) (r : Result Unit Memory) → OnOk r (AddsReply (value_of (text_of p) v) old new) → OnOk r (AddsReplyBy p v old new)
reply_named p few v old new (Ok u) h = λ n is are. subst (λ x. AddsReply x old new) (sym (value_alike few is v are)) h
reply_named p few v old new (Err m) h = tt
