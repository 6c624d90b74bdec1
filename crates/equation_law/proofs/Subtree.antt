-- The numbers from a node's on to the end of its subtree are those of the nodes whose way upwards meets it.
use Rattle.std.proofs.Common.{◌≡◌, ◌↔◌, ◌⊎◌, ℕ, zero, suc, ◌+◌, ◌-◌, ◌<◌, ◌≤◌, Bool, true, false, leb, List, [], ◌∷◌, Contains, Option, Some, None, get_or, length, slice_get, refl, sym, ap, subst, ◌∙◌, inl, inr, arith}
use Rattle.std.specs.List.{range_with_len}
use Rattle.std.specs.Option.{option_map}
use Rattle.std.proofs.lemmas.Bool.{leb-true, cond-true, cond-false, le-leb, cases_lt}
use Rattle.std.proofs.lemmas.Option.{slice_get-get_or, slice_get_within}
use Rattle.tree_arena.specs.Accessors.{HasNode, IsOneTree, alone}
use Rattle.tree_arena.specs.Nodes.{Node as TreeNode, below_from, behind, child_in, end_in, parent_in}
use Rattle.tree_arena.specs.Terms.{Forest, IsTree, size}
use Rattle.tree_arena.proofs.AccessorsLaws.{all_hang, hangs_child, term_node}
use Rattle.tree_arena.proofs.AccessorsPreorder.{length_nodes}
use Rattle.tree_arena.proofs.AccessorsTrees.{roots_are, term_alone, tree_alone, tree_there}
use Rattle.tree_arena.proofs.Subtrees.{end_within}
use Rattle.equation_law.specs.Equations.{subtree, upwards_from}
use Rattle.equation_law.proofs.Above.{tree_falls, upwards_end, upwards_step}
use Rattle.equation_law.proofs.Lists.{some_of}

-- an element of a list is its first or one of the others
pub first_or_other : (x : ℕ) (xs : List ℕ) (y : ℕ) → Contains (x ∷ xs) y → (x ≡ y) ⊎ Contains xs y
first_or_other x xs y c = at c.0 c.1 c.2
  where
    at : (k : ℕ) → k < suc (length xs) → get_or (x ∷ xs) k y ≡ y → (x ≡ y) ⊎ Contains xs y
    at zero l e = inl e
    at (suc k) l e = inr (k, omega (arith, l), e)

pub first_there : (x : ℕ) (xs : List ℕ) → Contains (x ∷ xs) x
first_there x xs = (0, omega arith, refl)

pub other_there : (x : ℕ) (xs : List ℕ) (y : ℕ) → Contains xs y → Contains (x ∷ xs) y
other_there x xs y c = let l = c.1 in (suc c.0, omega (arith, l), c.2)

-- what a range has
in_range : (a n j : ℕ) → Contains (range_with_len a n) j → (a ≤ j) × (j < a + n)
in_range a zero j c = let l = c.1 in absurd (omega (arith, l))
in_range a (suc n) j c = elim (first_or_other a (range_with_len (a + 1) n) j c) [
  | inl e ↦ (omega (arith, e), omega (arith, e))
  | inr d ↦ let h = in_range (a + 1) n j d in let l = h.0 in let u = h.1 in (omega (arith, l), omega (arith, u))
]

range_has : (a n j : ℕ) → a ≤ j → j < a + n → Contains (range_with_len a n) j
range_has a zero j l u = absurd (omega (arith, l, u))
range_has a (suc n) j l u = elim (cases_lt a j) [
  | inl h ↦ other_there a (range_with_len (a + 1) n) j (range_has (a + 1) n j (omega (arith, h)) (omega (arith, u)))
  | inr h ↦ let e : a ≡ j = omega (arith, l, h) in subst (λ (x : ℕ). Contains (a ∷ range_with_len (a + 1) n) x) e (first_there a (range_with_len (a + 1) n))
]

-- one node in front of others, which hangs at n or behind it, or before
below_first : (n : ℕ) (x : TreeNode) (xs : List TreeNode) → n ≤ x.parent → below_from n (x ∷ xs) ≡ suc (below_from n xs)
below_first n x xs l = cond-true (leb n x.parent) (suc (below_from n xs)) 0 (le-leb n x.parent l)

below_stops : (n : ℕ) (x : TreeNode) (xs : List TreeNode) → leb n x.parent ≡ false → below_from n (x ∷ xs) ≡ 0
below_stops n x xs e = cond-false (leb n x.parent) (suc (below_from n xs)) 0 e

-- of the nodes in front that hang at n or behind it, the first so many and the others
below_parts : (n d : ℕ) (xs : List TreeNode) → d ≤ below_from n xs → below_from n xs ≡ d + below_from n (behind d xs)
below_parts n zero xs l = omega arith
below_parts n (suc d) [] l = absurd (omega (arith, l))
below_parts n (suc d) (x ∷ xs) l = of_first (leb n x.parent) refl (below_parts n d xs)
  where
    of_first : (b : Bool) → leb n x.parent ≡ b → (d ≤ below_from n xs → below_from n xs ≡ d + below_from n (behind d xs)) → below_from n (x ∷ xs) ≡ suc d + below_from n (behind d xs)
    of_first true e later =
        let here = below_first n x xs (leb-true n x.parent e) in
        let rest = later (omega (arith, l, here)) in
        omega (arith, here, rest)
    of_first false e later = let here = below_stops n x xs e in absurd (omega (arith, l, here))

-- each of them does
below_each : (n d : ℕ) (xs : List TreeNode) (y : TreeNode) → d < below_from n xs → slice_get xs d ≡ Some y → n ≤ y.parent
below_each n d [] y l e = absurd (omega (arith, l))
below_each n d (x ∷ xs) y l e = of_first (leb n x.parent) refl (λ c. below_each n c xs y) d l e
  where
    of_first : (b : Bool) → leb n x.parent ≡ b → ((c : ℕ) → c < below_from n xs → slice_get xs c ≡ Some y → n ≤ y.parent) → (c : ℕ) → c < below_from n (x ∷ xs) → slice_get (x ∷ xs) c ≡ Some y → n ≤ y.parent
    of_first false f later c m g = let here = below_stops n x xs f in absurd (omega (arith, m, here))
    of_first true f later zero m g = let same : x ≡ y = cc in subst (λ (z : TreeNode). n ≤ z.parent) same (leb-true n x.parent f)
    of_first true f later (suc c) m g = let here = below_first n x xs (leb-true n x.parent f) in later c (omega (arith, m, here)) g

-- no fewer hang at a node before another or behind it
below_fewer : (n m : ℕ) (xs : List TreeNode) → n ≤ m → below_from m xs ≤ below_from n xs
below_fewer n m [] l = omega arith
below_fewer n m (x ∷ xs) l = of_first (leb m x.parent) refl (below_fewer n m xs l)
  where
    of_first : (b : Bool) → leb m x.parent ≡ b → below_from m xs ≤ below_from n xs → below_from m (x ∷ xs) ≤ below_from n (x ∷ xs)
    of_first false e rest = let here = below_stops m x xs e in omega (arith, here)
    of_first true e rest =
        let under = leb-true m x.parent e in
        let here = below_first m x xs under in
        let there = below_first n x xs (omega (arith, l, under)) in
        omega (arith, here, there, rest)

-- so many left out, and then more
behind_more : (n m k : ℕ) (xs : List TreeNode) → n + m ≡ k → behind m (behind n xs) ≡ behind k xs
behind_more zero m k xs e = let same : m ≡ k = omega (arith, e) in ap (λ i. behind i xs) same
behind_more (suc n) m zero [] e = absurd (omega (arith, e))
behind_more (suc n) zero (suc k) [] e = refl
behind_more (suc n) (suc m) (suc k) [] e = refl
behind_more (suc n) m zero (x ∷ xs) e = absurd (omega (arith, e))
behind_more (suc n) m (suc k) (x ∷ xs) e = behind_more n m k xs (omega (arith, e))

get_behind : (n d k : ℕ) (xs : List TreeNode) → n + d ≡ k → slice_get (behind n xs) d ≡ slice_get xs k
get_behind zero d k xs e = let same : d ≡ k = omega (arith, e) in ap (slice_get xs) same
get_behind (suc n) d zero xs e = absurd (omega (arith, e))
get_behind (suc n) d (suc k) [] e = refl
get_behind (suc n) d (suc k) (x ∷ xs) e = get_behind n d k xs (omega (arith, e))

-- the subtree of a node in another's ends in it
ends_inside : (tree : List TreeNode) (n m : ℕ) → n ≤ m → m < end_in tree n → end_in tree m ≤ end_in tree n
ends_inside tree n m l u = elim (cases_lt n m) [
  | inr h ↦ let same : m ≡ n = omega (arith, l, h) in let e = ap (end_in tree) same in omega (arith, e)
  | inl h ↦
      let d = m - suc n in
      let place : suc n + d ≡ m = omega (arith, h) in
      let ys = behind (suc n) tree in
      let rest = behind (suc m) tree in
      let parts = below_parts n (suc d) ys (omega (arith, u, place)) in
      let same : below_from n (behind (suc d) ys) ≡ below_from n rest = ap (below_from n) (behind_more (suc n) (suc d) (suc m) tree (omega (arith, place))) in
      let fewer = below_fewer n m rest l in
      omega (arith, parts, same, fewer, place)
]

-- what hangs at a node is in its subtree
child_inside : (nodes : List TreeNode) (q : ℕ) (sub : Forest) → IsOneTree sub → HasNode nodes q sub → (k i j : ℕ) → child_in nodes q k i ≡ Some j → j < end_in nodes q
child_inside nodes q _ (alone {below = below}) n k i j e =
    let r = roots_are below (suc q) k i j (sym (n.child k i) ∙ e) in
    let end = n.end in
    let at = r.at in
    let there = r.there in
    omega (arith, end, at, there)

module _ (tree : List TreeNode) (t : IsTree tree) where
  falls_in : (n u : ℕ) → parent_in tree n ≡ Some u → u < n
  falls_in = tree_falls tree t

  within : (j q : ℕ) → parent_in tree j ≡ Some q → j < length tree
  within zero q e = cc
  within (suc j) q e =
      let x = some_of (λ (y : TreeNode). y.parent) (slice_get tree (suc j)) q e in
      slice_get_within tree (suc j) x.0 x.1

  child_within : (j q : ℕ) → parent_in tree j ≡ Some q → j < end_in tree q
  child_within j q e =
      let smaller = falls_in j q e in
      let inside = within j q e in
      let hang = all_hang tree j (omega (arith, smaller)) inside in
      let up = hang.3.parent in
      let same : hang.0 ≡ q = cc in
      let child : child_in tree q hang.1 hang.2 ≡ Some j = ap (λ (n : ℕ). child_in tree n hang.1 hang.2) (sym same) ∙ hangs_child tree hang.0 hang.1 hang.2 j hang.3 in
      let term = t.tree.term in
      let many : length tree ≡ size term = ap length t.tree.are ∙ length_nodes term 0 0 in
      let sub = tree_there term q (omega (arith, many, smaller, inside)) in
      let one = tree_alone term q sub.0 sub.1 in
      let node : HasNode tree q sub.0 = subst (λ (ns : List TreeNode). HasNode ns q sub.0) (sym t.tree.are) (term_node term q sub.0 (term_alone t.grammar t.texts term t.tree.grown) sub.1) in
      child_inside tree q sub.0 one node hang.1 hang.2 j child

  -- the way upwards from a node in a subtree meets its root
  meets : (most k j : ℕ) → j ≤ most → k < length tree → k ≤ j → j < end_in tree k → Contains (upwards_from j tree j) k
  meets most k zero m w l u = let same : zero ≡ k = omega (arith, l) in subst (Contains (upwards_from zero tree zero)) same (first_there zero [])
  meets zero k (suc j) m w l u = absurd (omega (arith, m))
  meets (suc most) k (suc j) m w l u = elim (cases_lt k (suc j)) [
    | inr h ↦ let same : suc j ≡ k = omega (arith, l, h) in subst (Contains (upwards_from (suc j) tree (suc j))) same (first_there (suc j) _)
    | inl h ↦
        let d = j - k in
        let place : suc k + d ≡ suc j = omega (arith, h) in
        let end = end_within tree k w in
        let x = get_or tree (suc j) (get_or tree 0 none) in
        let is : slice_get tree (suc j) ≡ Some x = slice_get-get_or tree (suc j) (get_or tree 0 none) (omega (arith, u, end)) in
        let under = below_each k d (behind (suc k) tree) x (omega (arith, u, place)) (get_behind (suc k) d (suc j) tree place ∙ is) in
        let up : parent_in tree (suc j) ≡ Some x.parent = ap (option_map (λ (y : TreeNode). y.parent)) is in
        let smaller = falls_in (suc j) x.parent up in
        let higher = meets most k x.parent (omega (arith, m, smaller)) w under (omega (arith, u, smaller)) in
        subst (λ (ns : List ℕ). Contains ns k) (sym (upwards_step tree falls_in (suc j) x.parent up)) (other_there (suc j) (upwards_from x.parent tree x.parent) k higher)
  ]
    where
      none : TreeNode
      none = record { class = record { 0 = 0 }; parent = 0; component = 0; tokens = [] }

  -- and a node whose way upwards meets another is in its subtree
  abbrev InSubtree : ℕ → ℕ → Type 0
  InSubtree k j = (k ≤ j) × (j < end_in tree k)

  itself : (k j : ℕ) → j ≡ k → InSubtree k j
  itself k j e = (omega (arith, e), omega (arith, e))

  alone_there : (k j : ℕ) → Contains (j ∷ []) k → InSubtree k j
  alone_there k j c = elim (first_or_other j [] k c) [
    | inl e ↦ itself k j e
    | inr f ↦ let l = f.1 in absurd (omega (arith, l))
  ]

  below_met : (k q j : ℕ) → parent_in tree j ≡ Some q → InSubtree k q → InSubtree k j
  below_met k q j up h =
      let smaller = falls_in j q up in
      let low = h.0 in
      let high = h.1 in
      let child = child_within j q up in
      let inside = ends_inside tree k q low high in
      (omega (arith, low, smaller), omega (arith, child, inside))

  met_from : (k j : ℕ) (o : Option ℕ) → parent_in tree j ≡ o → ((q : ℕ) → q < j → Contains (upwards_from q tree q) k → InSubtree k q) → Contains (upwards_from j tree j) k → InSubtree k j
  met_from k j None up later c = alone_there k j (subst (λ (ns : List ℕ). Contains ns k) (upwards_end tree falls_in j up) c)
  met_from k j (Some q) up later c = elim (first_or_other j (upwards_from q tree q) k (subst (λ (ns : List ℕ). Contains ns k) (upwards_step tree falls_in j q up) c)) [
    | inl e ↦ itself k j e
    | inr d ↦ below_met k q j up (later q (falls_in j q up) d)
  ]

  met : (most k j : ℕ) → j ≤ most → Contains (upwards_from j tree j) k → InSubtree k j
  met zero k j m c = met_from k j (parent_in tree j) refl (λ q l d. absurd (omega (arith, m, l))) c
  met (suc most) k j m c = met_from k j (parent_in tree j) refl (λ q l d. met most k q (omega (arith, m, l)) d) c

  pub subtree_numbers : (k j : ℕ) → k < length tree → ((k ≤ j) × (j < end_in tree k)) ↔ ((j < length tree) × Contains (upwards_from j tree j) k)
  subtree_numbers k j w = (
    λ h. let u = h.1 in let end = end_within tree k w in (omega (arith, u, end), meets j k j (omega arith) w h.0 h.1),
    λ h. met j k j (omega arith) h.1,
  )

  pub subtree_nodes : (k j : ℕ) → k < length tree → Contains (subtree tree k) j ↔ ((j < length tree) × Contains (upwards_from j tree j) k)
  subtree_nodes k j w =
      let numbers = subtree_numbers k j w in (
        λ c. let r = in_range k (end_in tree k - k) j c in let u = r.1 in numbers.0 (r.0, omega (arith, u)),
        λ h. let b = numbers.1 h in let u = b.1 in let l = b.0 in range_has k (end_in tree k - k) j l (omega (arith, l, u)),
      )
