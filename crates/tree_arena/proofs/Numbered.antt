-- The parts of a tree: where those of each node begin, and what their codes are.
use Rattle.std.proofs.Common.{◌≡◌, ℕ, zero, suc, ◌+◌, ◌<◌, ◌≤◌, inl, inr, List, [], ◌∷◌, Some, length, slice_get, take, drop, refl, sym, ap, ◌∙◌, arith, length-append}
use Rattle.std.proofs.lemmas.Bool.{cases_order}
use Rattle.std.proofs.lemmas.List.{drop-drop, drop_at, take_at}
use Rattle.tree_arena.specs.Nodes.{Node, tokens_at}
use Rattle.tree_arena.specs.Parts.{codes_of, first_of}

-- the codes of a node that is there
pub tokens_found : (nodes : List Node) (n : ℕ) (x : Node) → slice_get nodes n ≡ Some x → tokens_at nodes n ≡ x.tokens
tokens_found [] n x e = absurd cc
tokens_found (y ∷ nodes) zero x e = let same : y ≡ x = cc in ap (λ (z : Node). z.tokens) same
tokens_found (y ∷ nodes) (suc n) x e = tokens_found nodes n x e

-- the parts of a node are parts of the tree
pub parts_within : (nodes : List Node) (n : ℕ) → first_of nodes n + length (tokens_at nodes n) ≤ length (codes_of nodes)
parts_within [] n = omega arith
parts_within (x ∷ nodes) zero = omega (arith, length-append x.tokens (codes_of nodes))
parts_within (x ∷ nodes) (suc n) = omega (arith, length-append x.tokens (codes_of nodes), parts_within nodes n)

-- and lie before those of the nodes behind it
pub parts_before : (nodes : List Node) (n m : ℕ) → n < m → first_of nodes n + length (tokens_at nodes n) ≤ first_of nodes m
parts_before [] n m l = omega arith
parts_before (x ∷ nodes) n zero l = absurd (omega (arith, l))
parts_before (x ∷ nodes) zero (suc m) l = omega arith
parts_before (x ∷ nodes) (suc n) (suc m) l = omega (arith, parts_before nodes n m (omega (arith, l)))

-- the first part of the root
pub first_none : (nodes : List Node) → first_of nodes 0 ≡ 0
first_none [] = refl
first_none (x ∷ nodes) = refl

-- and of the next node
pub first_next : (nodes : List Node) (n : ℕ) → first_of nodes (suc n) ≡ first_of nodes n + length (tokens_at nodes n)
first_next [] n = omega arith
first_next (x ∷ nodes) zero = omega (arith, first_none nodes)
first_next (x ∷ nodes) (suc n) = omega (arith, first_next nodes n)

-- a part is at one component of one node
pub part_is : (nodes : List Node) (n k m j : ℕ) → k < length (tokens_at nodes n) → j < length (tokens_at nodes m) → first_of nodes n + k ≡ first_of nodes m + j → (n ≡ m) × (k ≡ j)
part_is nodes n k m j l h e = elim (cases_order n m) [
  | inl same ↦ let at : first_of nodes n ≡ first_of nodes m = ap (first_of nodes) same in (same, omega arith)
  | inr apart ↦ elim apart [
    | inl under ↦ absurd (omega (arith, parts_before nodes n m under))
    | inr over ↦ absurd (omega (arith, parts_before nodes m n over))
  ]
]

-- the codes at the parts of a node
pub codes_found : (nodes : List Node) (n : ℕ) → take (length (tokens_at nodes n)) (drop (first_of nodes n) (codes_of nodes)) ≡ tokens_at nodes n
codes_found [] n = refl
codes_found (x ∷ nodes) zero = take_at x.tokens (codes_of nodes) (length x.tokens) refl
codes_found (x ∷ nodes) (suc n) =
    let rest : drop (length x.tokens + first_of nodes n) (codes_of (x ∷ nodes)) ≡ drop (first_of nodes n) (codes_of nodes) =
    sym (drop-drop (first_of nodes n) (length x.tokens) (codes_of (x ∷ nodes))) ∙ ap (drop (first_of nodes n)) (drop_at x.tokens (codes_of nodes) (length x.tokens) refl)
    in
    ap (take (length (tokens_at nodes n))) rest ∙ codes_found nodes n
