-- What is kept of the nodes of a tree gives them back.
use Rattle.std.proofs.Common.{◌≡◌, ℕ, zero, suc, ◌+◌, ◌<◌, ◌^◌, List, [], ◌∷◌, ◌++◌, Some, length, get_or, slice_get, take, drop, refl, sym, ap, subst, ◌∙◌, arith}
use Rattle.groups.specs.Groups.{groups_of}
use Rattle.tree_arena.specs.declared.tree.KeptNode.{KeptNode}
use Rattle.tree_arena.specs.Arena.{IsKept, keep, kept_from, kept_of, node_among, nodes_among}
use Rattle.tree_arena.specs.Nodes.{Node}
use Rattle.tree_arena.specs.Parts.{codes_of, first_of, keys_of}
use Rattle.tree_arena.specs.Terms.{IsTree}
use Rattle.tree_arena.proofs.Grown.{AreAt, all_at}
use Rattle.tree_arena.proofs.Numbered.{codes_found}

module _ (all : List Node) where
  -- one node more is kept
  pub kept_push : (i n : ℕ) (xs : List Node) (x : Node) → i + length xs ≡ n → kept_from all i (xs ++ x ∷ []) ≡ kept_from all i xs ++ keep all n x ∷ []
  kept_push i n [] x e = let at : i ≡ n = omega (arith, e) in ap (λ m. keep all m x ∷ []) at
  kept_push i n (y ∷ xs) x e = ap (λ zs. keep all i y ∷ zs) (kept_push (suc i) n xs x (omega (arith, e)))

  -- what is kept of the n-th node
  kept_found : (i j n : ℕ) (xs : List Node) (x : Node) (d : KeptNode) → i + j ≡ n → slice_get xs j ≡ Some x → get_or (kept_from all i xs) j d ≡ keep all n x
  kept_found i j n [] x d e there = absurd cc
  kept_found i zero n (y ∷ xs) x d e there =
      let at : i ≡ n = omega (arith, e) in
      let same : y ≡ x = cc in
      (λ t. keep all (at t) (same t))
  kept_found i (suc j) n (y ∷ xs) x d e there = kept_found (suc i) j n xs x d (omega (arith, e)) there

  -- of which node something is kept
  nodes_back : (i : ℕ) (xs : List Node) → AreAt all i xs → nodes_among (kept_from all i xs) (codes_of all) ≡ xs
  nodes_back i [] h = refl
  nodes_back i (x ∷ xs) h =
      let tokens : take (length x.tokens) (drop (first_of all i) (codes_of all)) ≡ x.tokens = ap (λ ts. take (length ts) (drop (first_of all i) (codes_of all))) (sym h.0) ∙ codes_found all i ∙ h.0 in
      let one : node_among (codes_of all) (keep all i x) ≡ x = (λ j. record { class = x.class; parent = x.parent; component = x.component; tokens = tokens j }) in
      (λ j. one j ∷ nodes_back (suc i) xs h.1 j)

-- what is kept of all nodes, and their codes, show them
pub nodes_kept : (nodes : List Node) → nodes_among (kept_of nodes) (codes_of nodes) ≡ nodes
nodes_kept nodes = nodes_back nodes 0 nodes (all_at nodes)

-- What is kept of a node that is there.
pub record IsKeptOf (nodes : List Node) (n : ℕ) (kept : KeptNode) : Type 0 where
  pub node : Node
  pub there : slice_get nodes n ≡ Some node
  pub is : kept ≡ keep nodes n node

-- there is a node of each number below their count
node_at : (nodes : List Node) (n : ℕ) → n < length nodes → (x : Node) × (slice_get nodes n ≡ Some x)
node_at [] n l = absurd (omega (arith, l))
node_at (x ∷ nodes) zero l = (x, refl)
node_at (x ∷ nodes) (suc n) l = node_at nodes n (omega (arith, l))

-- what is read at the number of a node
pub kept_at : (nodes : List Node) (kept : List KeptNode) (n : ℕ) {x : KeptNode} (d : KeptNode) → kept ≡ kept_of nodes → n < length nodes → x ≡ get_or kept n d → IsKeptOf nodes n x
kept_at nodes kept n {x} d are l e =
    let found = node_at nodes n l in
    record {
      node = found.0;
      there = found.1;
      is = e ∙ ap (λ xs. get_or xs n d) are ∙ kept_found nodes 0 n n nodes found.0 d (omega arith) found.1;
    }

-- the same of lists that are equal to those
pub nodes_shown : (nodes : List Node) {kept : List KeptNode} {codes : List ℕ} → kept ≡ kept_of nodes → codes ≡ codes_of nodes → nodes_among kept codes ≡ nodes
nodes_shown nodes k c = (λ j. nodes_among (k j) (c j)) ∙ nodes_kept nodes

-- so a tree is kept
pub is_kept : (nodes : List Node) {kept : List KeptNode} {codes : List ℕ} {children : List (List ℕ)} → IsTree nodes → kept ≡ kept_of nodes → codes ≡ codes_of nodes → length codes < 2 ^ 32
    → children ≡ groups_of (keys_of nodes) (length codes) → IsKept (nodes_among kept codes) kept codes children
is_kept nodes {kept} {codes} {children} t k c few g =
    subst (λ ns. IsKept ns kept codes children) (sym (nodes_shown nodes k c)) (record { tree = t; few = few; kept_are = k; codes_are = c; children_are = g })
