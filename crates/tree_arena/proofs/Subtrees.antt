-- Where a subtree ends, by where those of the nodes behind it do.
use Rattle.std.proofs.Common.{◌≡◌, ℕ, zero, suc, ◌+◌, ◌-◌, ◌<◌, ◌≤◌, Bool, true, false, List, [], ◌∷◌, Some, length, leb, slice_get, refl, sym, ap, subst, ◌∙◌, arith}
use Rattle.std.proofs.lemmas.Bool.{leb-true, leb-false, le-leb, lt-leb, cond-true, cond-false}
use Rattle.tree_arena.specs.Nodes.{Node, below_from, behind, end_in}

-- a node that hangs at another or behind it belongs to that one's subtree
below_more : (n : ℕ) (x : Node) (xs : List Node) → n ≤ x.parent → below_from n (x ∷ xs) ≡ suc (below_from n xs)
below_more n x xs h = cond-true (leb n x.parent) (suc (below_from n xs)) 0 (le-leb n x.parent h)

-- and at one that hangs before it the subtree ends
below_none : (n : ℕ) (x : Node) (xs : List Node) → x.parent < n → below_from n (x ∷ xs) ≡ 0
below_none n x xs h = cond-false (leb n x.parent) (suc (below_from n xs)) 0 (lt-leb n x.parent h)

-- one node in front of the rest
below_split : (n m : ℕ) (x : Node) (xs : List Node) (b : Bool) → n ≤ m → leb m x.parent ≡ b → below_from n xs ≡ below_from m xs + below_from n (behind (below_from m xs) xs)
    → below_from n (x ∷ xs) ≡ below_from m (x ∷ xs) + below_from n (behind (below_from m (x ∷ xs)) (x ∷ xs))
below_split n m x xs true h e later =
    let under : m ≤ x.parent = leb-true m x.parent e in
    let here = below_more m x xs under in
    let rest : below_from n (behind (below_from m (x ∷ xs)) (x ∷ xs)) ≡ below_from n (behind (below_from m xs) xs) = ap (λ k. below_from n (behind k (x ∷ xs))) here in
    omega (arith, below_more n x xs (omega arith), here, rest, later)
below_split n m x xs false h e later =
    let here = below_none m x xs (leb-false m x.parent e) in
    let rest : below_from n (behind (below_from m (x ∷ xs)) (x ∷ xs)) ≡ below_from n (x ∷ xs) = ap (λ k. below_from n (behind k (x ∷ xs))) here in
    omega (arith, here, rest)

-- the subtree of a node goes on behind that of a node in it
below_jump : (n m : ℕ) (xs : List Node) → n ≤ m → below_from n xs ≡ below_from m xs + below_from n (behind (below_from m xs) xs)
below_jump n m [] h = refl
below_jump n m (x ∷ xs) h = below_split n m x xs (leb m x.parent) h refl (below_jump n m xs h)

-- so many left out, and then more
behind_behind : (n m : ℕ) (xs : List Node) → behind m (behind n xs) ≡ behind (n + m) xs
behind_behind zero m xs = let e : m ≡ zero + m = omega arith in ap (λ k. behind k xs) e
behind_behind (suc n) m [] = let e : suc (n + m) ≡ suc n + m = omega arith in behind_nil m ∙ ap (λ k. behind k []) e
  where
    behind_nil : (k : ℕ) → behind k [] ≡ []
    behind_nil zero = refl
    behind_nil (suc k) = refl
behind_behind (suc n) m (x ∷ xs) = let e : suc (n + m) ≡ suc n + m = omega arith in behind_behind n m xs ∙ ap (λ k. behind k (x ∷ xs)) e

-- from a node on, it is the first
behind_at : (m : ℕ) (xs : List Node) (x : Node) → slice_get xs m ≡ Some x → behind m xs ≡ x ∷ behind (suc m) xs
behind_at m [] x e = absurd cc
behind_at zero (y ∷ xs) x e = let same : y ≡ x = cc in ap (λ z. z ∷ xs) same
behind_at (suc m) (y ∷ xs) x e = behind_at m xs x e

-- all left out
behind_all : (m : ℕ) (xs : List Node) → length xs ≤ m → behind m xs ≡ []
behind_all zero [] h = refl
behind_all zero (x ∷ xs) h = absurd (omega (arith, h))
behind_all (suc m) [] h = refl
behind_all (suc m) (x ∷ xs) h = behind_all m xs (omega (arith, h))

-- how many are left
length-behind : (m : ℕ) (xs : List Node) → length (behind m xs) ≡ length xs - m
length-behind zero xs = omega arith
length-behind (suc m) [] = omega arith
length-behind (suc m) (x ∷ xs) = omega (arith, length-behind m xs)

-- one node in front of the rest
few_split : (n : ℕ) (x : Node) (xs : List Node) (b : Bool) → leb n x.parent ≡ b → below_from n xs ≤ length xs → below_from n (x ∷ xs) ≤ suc (length xs)
few_split n x xs true e h = omega (arith, below_more n x xs (leb-true n x.parent e), h)
few_split n x xs false e h = omega (arith, below_none n x xs (leb-false n x.parent e))

-- no more belong to a subtree than there are
below_few : (n : ℕ) (xs : List Node) → below_from n xs ≤ length xs
below_few n [] = omega arith
below_few n (x ∷ xs) = few_split n x xs (leb n x.parent) refl (below_few n xs)

-- a subtree ends within the tree
pub end_within : (nodes : List Node) (n : ℕ) → n < length nodes → end_in nodes n ≤ length nodes
end_within nodes n h = omega (arith, below_few n (behind (suc n) nodes), length-behind (suc n) nodes)

-- From this node on, the rest of a subtree is so long that it ends where it does.
pub record EndsFrom (nodes : List Node) (n end : ℕ) : Type 0 where
  pub above : n < end
  pub within : end ≤ length nodes
  pub are : end + below_from n (behind end nodes) ≡ end_in nodes n

-- behind the node itself
pub ends_start : (nodes : List Node) (n : ℕ) → n < length nodes → EndsFrom nodes n (n + 1)
ends_start nodes n h =
    let next : suc n ≡ n + 1 = omega arith in
    subst (EndsFrom nodes n) next (record { above = omega arith; within = omega arith; are = refl })

-- behind the subtree of a node that belongs to it
pub ends_jump : (nodes : List Node) (n end : ℕ) (x : Node) {to : ℕ} → EndsFrom nodes n end → slice_get nodes end ≡ Some x → end < length nodes → n ≤ x.parent → to ≡ end_in nodes end → EndsFrom nodes n to
ends_jump nodes n end x h there l under e =
    let rest = behind (suc end) nodes in
    let above : n < end = h.above in
    let first : below_from n (behind end nodes) ≡ suc (below_from n rest) = ap (below_from n) (behind_at end nodes x there) ∙ below_more n x rest under in
    let jump = below_jump n end rest (omega arith) in
    let after : below_from n (behind (below_from end rest) rest) ≡ below_from n (behind (end_in nodes end) nodes) = ap (below_from n) (behind_behind (suc end) (below_from end rest) nodes) in
    let before = h.are in
    subst (EndsFrom nodes n) (sym e) (record { above = omega arith; within = end_within nodes end l; are = omega arith })

-- at the end of the tree the subtree ends
pub ends_past : (nodes : List Node) (n end : ℕ) → EndsFrom nodes n end → length nodes ≤ end → end ≡ end_in nodes n
ends_past nodes n end h l = let none = ap (below_from n) (behind_all end nodes l) in omega (arith, h.are, none)

-- and so it does at a node that doesn't belong to it
pub ends_here : (nodes : List Node) (n end : ℕ) (x : Node) → EndsFrom nodes n end → slice_get nodes end ≡ Some x → x.parent < n → end ≡ end_in nodes n
ends_here nodes n end x h there over =
    let none = ap (below_from n) (behind_at end nodes x there) ∙ below_none n x (behind (suc end) nodes) over in
    omega (arith, h.are, none)
