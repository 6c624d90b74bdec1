-- Nodes in preorder are those of one tree at most.
use Rattle.std.proofs.Common.{◌≡◌, ℕ, suc, ◌+◌, ◌<◌, List, [], ◌∷◌, ◌++◌, refl, sym, ap, ◌∙◌, arith, append_assoc}
use Rattle.tree_arena.specs.Nodes.{Node}
use Rattle.tree_arena.specs.Terms.{Forest, Empty, Tree, nodes_from, nodes_of, size}
use Rattle.tree_arena.specs.Accessors.{IsOneTree, alone}
use Rattle.tree_arena.proofs.AccessorsLists.{Stops, stops_both}
use Rattle.tree_arena.proofs.AccessorsPreorder.{node_at, stops_nodes}

-- nodes that begin with those of trees that hang at node p, before a node that hangs in front of it
once : (f g : Forest) (p i : ℕ) (xs ys : List Node) → p < i → Stops p xs → Stops p ys → nodes_from p i f ++ xs ≡ nodes_from p i g ++ ys → (f ≡ g) × (xs ≡ ys)
once Empty Empty p i xs ys l s t e = (refl, e)
once Empty (Tree c k tokens below beside) p i [] ys l s t e = cc
once Empty (Tree c k tokens below beside) p i (x ∷ xs) ys l s t e =
    let same : x ≡ node_at c p k tokens = cc in
    let parent : x.parent ≡ p = ap (λ (z : Node). z.parent) same in
    absurd (omega (arith, s, parent))
once (Tree c k tokens below beside) Empty p i xs [] l s t e = cc
once (Tree c k tokens below beside) Empty p i xs (y ∷ ys) l s t e =
    let same : node_at c p k tokens ≡ y = cc in
    let parent : p ≡ y.parent = ap (λ (z : Node). z.parent) same in
    absurd (omega (arith, t, parent))
once (Tree c k tokens below beside) (Tree d j codes trees others) p i xs ys l s t e =
    let first : node_at c p k tokens ≡ node_at d p j codes = cc in
    let rest : (nodes_from i (suc i) below ++ nodes_from p (suc i + size below) beside) ++ xs
    ≡ (nodes_from i (suc i) trees ++ nodes_from p (suc i + size trees) others) ++ ys = cc in
    let more = nodes_from p (suc i + size below) beside ++ xs in
    let also = nodes_from p (suc i + size trees) others ++ ys in
    let flat : nodes_from i (suc i) below ++ more ≡ nodes_from i (suc i) trees ++ also =
    sym (append_assoc (nodes_from i (suc i) below) (nodes_from p (suc i + size below) beside) xs) ∙ rest
    ∙ append_assoc (nodes_from i (suc i) trees) (nodes_from p (suc i + size trees) others) ys
    in
    let inner = once below trees i (suc i) more also (omega arith)
    (stops_both i (nodes_from p (suc i + size below) beside) xs (stops_nodes beside p (suc i + size below) i l) (stops_later xs p i l s))
    (stops_both i (nodes_from p (suc i + size trees) others) ys (stops_nodes others p (suc i + size trees) i l) (stops_later ys p i l t)) flat
    in
    let many : suc i + size trees ≡ suc i + size below = ap (λ z. suc i + size z) (sym inner.0) in
    let outer = once beside others p (suc i + size below) xs ys (omega arith) s t (inner.1 ∙ ap (λ n. nodes_from p n others ++ ys) many) in
    (λ r. Tree (first r).class (first r).component (first r).tokens (inner.0 r) (outer.0 r), outer.1)
  where
    stops_later : (zs : List Node) (p i : ℕ) → p < i → Stops p zs → Stops i zs
    stops_later [] p i l s = tt
    stops_later (z ∷ zs) p i l s = omega (arith, l, s)

pub one_term : (t u : Forest) → IsOneTree t → IsOneTree u → nodes_of t ≡ nodes_of u → t ≡ u
one_term _ _ (alone {c} {k} {tokens} {below}) (alone {c = d} {k = j} {tokens = codes} {below = trees}) e =
    let first : node_at c 0 k tokens ≡ node_at d 0 j codes = cc in
    let rest : nodes_from 0 1 below ++ [] ≡ nodes_from 0 1 trees ++ [] = cc in
    let inner = once below trees 0 1 [] [] (omega arith) tt tt rest in
    λ r. Tree (first r).class (first r).component (first r).tokens (inner.0 r) Empty
