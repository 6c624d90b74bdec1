-- What the accessors answer of the nodes of a term is what it has.
use Rattle.std.proofs.Common.{◌≡◌, ◌≢◌, ℕ, zero, suc, ◌+◌, ◌<◌, ◌≤◌, true, false, nat_lt, if◌then◌else◌, List, [], ◌∷◌, ◌++◌, Option, Some, None, length, get_or, slice_get, take, refl, sym, ap, subst, ◌∙◌, arith}
use Rattle.std.specs.Option.{option_map}
use Rattle.std.proofs.lemmas.List.{append-nil}
use Rattle.std.proofs.lemmas.Option.{slice_get-get_or, slice_get_within}
use Rattle.ast_grammar.specs.declared.grammar.ClassId.{ClassId}
use Rattle.tree_arena.specs.Nodes.{Node, below_from, behind, child_in, hanging, hanging_from, index_in, parent_in, tokens_at}
use Rattle.tree_arena.specs.Terms.{Forest, Empty, Tree, nodes_from, nodes_of, roots_at, size, tree_at}
use Rattle.tree_arena.specs.Accessors.{HangsAt, HasNode, IsNode, IsOneTree, alone}
use Rattle.tree_arena.proofs.AccessorsLists.{Stops, behind_there, below_all, get_at, hanging_both, hanging_none, hung, hung_there, parents_weaker, tokens_there}
use Rattle.tree_arena.proofs.AccessorsPreorder.{Splits, length_nodes, node_at, parents, roots, splits}
use Rattle.tree_arena.proofs.AccessorsTrees.{tree_alone}

-- a child's parent, component and place are those at which it is the child
pub child_hangs : (nodes : List Node) (n k i m : ℕ) → child_in nodes n k i ≡ Some m → HangsAt nodes n k i m
child_hangs [] n k i m e = cc
child_hangs (root ∷ rest) n k i zero e = let h = hung n k 1 i 0 rest e in absurd (omega (arith, h.at))
child_hangs (root ∷ rest) n k i (suc d) e =
    let h = hung n k 1 i (suc d) rest e in
    let number : h.place ≡ d = omega (arith, h.at) in
    let is : slice_get rest d ≡ Some h.node = ap (slice_get rest) (sym number) ∙ h.is in
    record {
      parent = ap (option_map (λ (x : Node). x.parent)) is ∙ ap Some h.parent;
      component = ap (option_map (λ (x : Node). x.component)) is ∙ ap Some h.component;
      index = ap (option_map (λ (x : Node). length (hanging_from 1 (take d rest) x.parent x.component))) is
          ∙ ap Some
          (ap (λ p. length (hanging_from 1 (take d rest) p h.node.component)) h.parent
          ∙ ap (λ c. length (hanging_from 1 (take d rest) n c)) h.component ∙ ap (λ j. length (hanging_from 1 (take j rest) n k)) (sym number) ∙ h.index);
    }

-- and a node is the child at its parent, component and place
pub hangs_child : (nodes : List Node) (n k i m : ℕ) → HangsAt nodes n k i m → child_in nodes n k i ≡ Some m
hangs_child [] n k i zero h = let e = h.parent in cc
hangs_child [] n k i (suc d) h = let e = h.parent in cc
hangs_child (root ∷ rest) n k i zero h = let e = h.parent in cc
hangs_child (root ∷ rest) n k i (suc d) h = found (slice_get rest d) refl h.parent h.component h.index
  where
    found : (o : Option Node) → slice_get rest d ≡ o → option_map (λ (x : Node). x.parent) o ≡ Some n → option_map (λ (x : Node). x.component) o ≡ Some k
        → option_map (λ (x : Node). length (hanging_from 1 (take d rest) x.parent x.component)) o ≡ Some i → slice_get (hanging_from 1 rest n k) i ≡ Some (suc d)
    found None is p c l = cc
    found (Some x) is p c l =
        let parent : x.parent ≡ n = cc in
        let component : x.component ≡ k = cc in
        let index : length (hanging_from 1 (take d rest) x.parent x.component) ≡ i = cc in
        hung_there n k 1 i (suc d) d x rest (omega arith) is parent component
        (ap (λ p. length (hanging_from 1 (take d rest) p k)) (sym parent) ∙ ap (λ c. length (hanging_from 1 (take d rest) x.parent c)) (sym component) ∙ index)

-- each node behind the root hangs somewhere
pub all_hang : (nodes : List Node) (m : ℕ) → 0 < m → m < length nodes → (n : ℕ) × (k : ℕ) × (i : ℕ) × HangsAt nodes n k i m
all_hang nodes zero some l = absurd (omega (arith, some))
all_hang [] (suc d) some l = absurd (omega (arith, l))
all_hang (root ∷ rest) (suc d) some l =
    let x = get_or rest d root in
    let is : slice_get rest d ≡ Some x = slice_get-get_or rest d root (omega (arith, l)) in (
      x.parent,
      x.component,
      length (hanging_from 1 (take d rest) x.parent x.component),
      record {
        parent = ap (option_map (λ (y : Node). y.parent)) is;
        component = ap (option_map (λ (y : Node). y.component)) is;
        index = ap (option_map (λ (y : Node). length (hanging_from 1 (take d rest) y.parent y.component))) is;
      },
    )

-- one past the subtree of a node before whose number the nodes behind the subtree go on
subtree_end : (n : ℕ) (below : Forest) (back : List Node) → Stops n back → below_from n (nodes_from n (suc n) below ++ back) ≡ size below
subtree_end n below back s = below_all n (nodes_from n (suc n) below) back (parents below n (suc n) (λ p. n ≤ p) (omega arith) (λ p a b. omega (arith, a))) s
    ∙ length_nodes below n (suc n)

-- the root
root_node : (c : ClassId) (k : ℕ) (tokens : List ℕ) (below : Forest) → IsNode (nodes_of (Tree c k tokens below Empty)) 0 c k tokens below
root_node c k tokens below =
    let nodes = nodes_of (Tree c k tokens below Empty) in
    let trees : (j : ℕ) → hanging nodes 0 j ≡ roots_at 1 below j =
    λ j. ap (λ xs. hanging_from 1 xs 0 j) (append-nil (nodes_from 0 1 below)) ∙ roots below 0 1 j (omega arith)
    in
    record {
      there = omega arith;
      class = refl;
      component = refl;
      tokens = refl;
      end = ap (λ l. 1 + l) (subtree_end 0 below [] tt);
      trees = trees;
      count = λ j. ap length (trees j);
      child = λ j i. ap (λ l. slice_get l i) (trees j);
      children = λ j i m e. child_hangs nodes 0 j i m (ap (λ l. slice_get l i) (trees j) ∙ e);
    }

-- a node behind it
split_node : (root : Node) (rest : List Node) (n : ℕ) (c : ClassId) (k : ℕ) (tokens : List ℕ) (below : Forest) → Splits rest 1 n c k tokens below
    → IsNode (root ∷ rest) n c k tokens below
split_node root rest zero c k tokens below s = let h = s.higher in absurd (omega (arith, h))
split_node root rest (suc d) c k tokens below s =
    let n : ℕ = suc d in
    let x : Node = node_at c s.parent k tokens in
    let inner = nodes_from (suc d) (suc (suc d)) below in
    let more = inner ++ s.back in
    let number : length s.front ≡ d = omega (arith, s.at) in
    let is : slice_get rest d ≡ Some x = ap (λ xs. slice_get xs d) s.are ∙ get_at s.front more x d number in
    let trees : (j : ℕ) → hanging_from 1 rest (suc d) j ≡ roots_at (suc (suc d)) below j = λ j. ap (λ xs. hanging_from 1 xs (suc d) j) s.are ∙ split_trees j in
    record {
      there = let l = slice_get_within rest d x is in omega (arith, l);
      class = ap (option_map (λ (y : Node). y.class)) is;
      component = ap (option_map (λ (y : Node). y.component)) is;
      tokens = ap (λ xs. tokens_at xs d) s.are ∙ tokens_there s.front more x d number;
      end = ap (λ xs. suc (suc d) + below_from (suc d) xs) (ap (behind (suc d)) s.are ∙ behind_there s.front more x d number)
          ∙ ap (λ l. suc (suc d) + l) (subtree_end (suc d) below s.back s.stops);
      trees = trees;
      count = λ j. ap length (trees j);
      child = λ j i. ap (λ l. slice_get l i) (trees j);
      children = λ j i m e. child_hangs (root ∷ rest) (suc d) j i m (ap (λ l. slice_get l i) (trees j) ∙ e);
    }
  where
    split_trees : (j : ℕ)
        → hanging_from 1 (s.front ++ node_at c s.parent k tokens ∷ (nodes_from (suc d) (suc (suc d)) below ++ s.back)) (suc d) j ≡ roots_at (suc (suc d)) below j
    split_trees j =
        let n : ℕ = suc d in
        let x : Node = node_at c s.parent k tokens in
        let inner = nodes_from (suc d) (suc (suc d)) below in
        let more = inner ++ s.back in
        let many = length_nodes below (suc d) (suc (suc d)) in
        let end = suc (suc d) + size below in
        let front : hanging_from 1 s.front (suc d) j ≡ [] =
        hanging_none (suc d) j 1 s.front (parents_weaker (λ q. q < suc d) (λ q. q ≢ suc d) (λ q l. omega (arith, l)) s.front s.before)
        in
        let here : hanging_from (suc d) (x ∷ []) (suc d) j ≡ [] = let h = s.higher in hanging_none (suc d) j (suc d) (x ∷ []) (omega (arith, h), tt) in
        let back : hanging_from end s.back (suc d) j ≡ [] = hanging_none (suc d) j end s.back s.behind in
        let low : hanging_from (suc (suc d)) inner (suc d) j ≡ roots_at (suc (suc d)) below j = roots below (suc d) (suc (suc d)) j (omega arith) in
        hanging_both (suc d) j 1 (suc d) s.front (x ∷ more) s.at ∙ ap (λ l. l ++ hanging_from (suc d) (x ∷ more) (suc d) j) front
        ∙ hanging_both (suc d) j (suc d) (suc (suc d)) (x ∷ []) more (omega arith) ∙ ap (λ l. l ++ hanging_from (suc (suc d)) more (suc d) j) here
        ∙ hanging_both (suc d) j (suc (suc d)) end inner s.back (omega (arith, many)) ∙ ap (λ l. hanging_from (suc (suc d)) inner (suc d) j ++ l) back
        ∙ append-nil (hanging_from (suc (suc d)) inner (suc d) j) ∙ low

-- each node of a whole tree
pub term_node : (term : Forest) (n : ℕ) (sub : Forest) → IsOneTree term → tree_at term n ≡ Some sub → HasNode (nodes_of term) n sub
term_node _ zero sub (alone {c} {k} {tokens} {below}) e =
    let same : Tree c k tokens below Empty ≡ sub = cc in
    subst (HasNode (nodes_of (Tree c k tokens below Empty)) 0) same (root_node c k tokens below)
term_node _ (suc m) sub (alone {c} {k} {tokens} {below}) e =
    elim (nat_lt m (size below)) as (λ b. (if b then tree_at below m else None) ≡ Some sub → HasNode (nodes_of (Tree c k tokens below Empty)) (suc m) sub) [
      | true ↦ λ f. inside sub (tree_alone below m sub f) f
      | false ↦ λ f. cc
    ] e
  where
    inside : (sub : Forest) → IsOneTree sub → tree_at below m ≡ Some sub → HasNode (nodes_of (Tree c k tokens below Empty)) (suc m) sub
    inside _ (alone {c = d} {k = j} {tokens = codes} {below = trees}) f =
        let s = splits (suc m) d j codes trees below 0 1 m Empty (omega arith) (omega arith) f in
        split_node (node_at c 0 k tokens) (nodes_from 0 1 below ++ []) (suc m) d j codes trees
        (subst (λ xs. Splits xs 1 (suc m) d j codes trees) (sym (append-nil (nodes_from 0 1 below))) s)

-- the root hangs nowhere
pub term_root : (term : Forest) → IsOneTree term → (parent_in (nodes_of term) 0 ≡ None) × (index_in (nodes_of term) 0 ≡ Some 0)
term_root _ alone = (refl, refl)

-- past its end nothing hangs
pub term_past : (term : Forest) (n k : ℕ) → IsOneTree term → length (nodes_of term) ≤ n → hanging (nodes_of term) n k ≡ []
term_past _ n k (alone {c} {k = at} {tokens} {below}) l =
    let many : length (nodes_of (Tree c at tokens below Empty)) ≡ suc (size below + 0) = length_nodes (Tree c at tokens below Empty) 0 0 in
    ap (λ xs. hanging_from 1 xs n k) (append-nil (nodes_from 0 1 below))
    ∙ hanging_none n k 1 (nodes_from 0 1 below) (parents below 0 1 (λ q. q ≢ n) (omega (arith, many, l)) (λ q a b. omega (arith, many, l, b)))
