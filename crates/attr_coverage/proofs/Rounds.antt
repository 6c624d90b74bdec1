-- As many rounds as there are classes find all classes that can be met uncovered.
use Rattle.std.proofs.Common.{◌≡◌, ◌==◌, ℕ, zero, suc, ◌+◌, ◌<◌, ◌≤◌, List, [], ◌∷◌, Bool, true, false, not, cond, ◌&&◌, Option, Some, None, length, ltb, slice_get, refl, ap, sym, ◌∙◌, subst, arith, inl, inr, zero-add}
use Rattle.std.specs.List.{count_by, list_any, range_with_len}
use Rattle.std.specs.Option.{option_map}
use Rattle.std.proofs.lemmas.Bool.{and_cases, and_from, and_parts, cases_Bool, eqb-true, ltb-true, not-false, not-true, not_from_false, or_cases, or_left, or_right}
use Rattle.std.proofs.lemmas.List.Folds.{Any-from_list_any, list_any_at}
use Rattle.std.proofs.lemmas.List.FromFn.{get_or-range_with_len, length-range_with_len}
use Rattle.std.proofs.lemmas.List.Sums.{count_by-le-length, sum_by-cons}
use Rattle.std.proofs.lemmas.Option.{slice_get_within}
use Rattle.ast_grammar.specs.Grammar.{Class, Component, abstract_in, component_at, components_of, is_sub}
use Rattle.attr_rules.specs.declared.dispatch.Via.{Via}
use Rattle.attr_rules.specs.declared.dispatch.Via.TheVariants.{Created as ByCreated}
use Rattle.attr_rules.specs.Rules.{by_component, is_for_nodes}
use Rattle.attr_coverage.specs.declared.created.Created.{Created}
use Rattle.attr_coverage.specs.Covering.{is_concrete, is_concrete_below, is_concrete_of, is_found_in, is_open_root, is_root_of, is_uncovered, may_be_made, may_follow, may_hang, may_hang_at}
use Rattle.attr_scope.specs.Classes.{class_numbers}
use Rattle.attr_scope.proofs.ItemsFound.{range_fails}

-- a number of a range that passes a test
pub range_has : (p : ℕ → Bool) (n k : ℕ) → k < n → p k ≡ true → list_any p (range_with_len 0 n) ≡ true
range_has p n k lt e = list_any_at p (range_with_len 0 n) k 0 (omega (arith, length-range_with_len 0 n)) (ap p (get_or-range_with_len 0 n k 0 lt ∙ zero-add k) ∙ e)

pub range_passes : (p : ℕ → Bool) (n : ℕ) → list_any p (range_with_len 0 n) ≡ true → (k : ℕ) × (k < n) × (p k ≡ true)
range_passes p n e =
    let any = Any-from_list_any p (range_with_len 0 n) e in
    let lt : any.0 < n = omega (arith, length-range_with_len 0 n, any.2) in
    (any.0, lt, subst (λ x. p x ≡ true) (sym any.3 ∙ get_or-range_with_len 0 n any.0 any.1 lt ∙ zero-add any.0) any.4)

-- counts by two tests, where what passes the first passes the second
no_fewer : (a b : Bool) (m n : ℕ) → (a ≡ true → b ≡ true) → m ≤ n → cond a 1 0 + m ≤ cond b 1 0 + n
no_fewer true true m n h le = omega arith
no_fewer true false m n h le = let never = h refl in absurd (cc)
no_fewer false true m n h le = omega arith
no_fewer false false m n h le = omega arith

still_fewer : (a b : Bool) (m n : ℕ) → (a ≡ true → b ≡ true) → m < n → cond a 1 0 + m < cond b 1 0 + n
still_fewer true true m n h lt = omega arith
still_fewer true false m n h lt = let never = h refl in absurd (cc)
still_fewer false true m n h lt = omega arith
still_fewer false false m n h lt = omega arith

one_fewer : (a b : Bool) (m n : ℕ) → a ≡ false → b ≡ true → m ≤ n → cond a 1 0 + m < cond b 1 0 + n
one_fewer true b m n out passes le = absurd (cc)
one_fewer false true m n out passes le = omega arith
one_fewer false false m n out passes le = absurd (cc)

one : {X : Type 0} (p : X → Bool) (x : X) (xs : List X) → count_by p (x ∷ xs) ≡ cond (p x) 1 0 + count_by p xs
one p x xs = sum_by-cons (λ y. cond (p y) 1 0) x xs

count_most : {X : Type 0} (p q : X → Bool) (xs : List X) → ((x : X) → p x ≡ true → q x ≡ true) → count_by p xs ≤ count_by q xs
count_most p q [] h = omega arith
count_most p q (x ∷ xs) h =
    let rest = no_fewer (p x) (q x) (count_by p xs) (count_by q xs) (h x) (count_most p q xs h) in
    omega (arith, one p x xs, one q x xs)

-- and something else passes the second
pub count_less : {X : Type 0} (p q : X → Bool) (xs : List X) → ((x : X) → p x ≡ true → q x ≡ true) → list_any (λ x. q x && not (p x)) xs ≡ true → count_by p xs < count_by q xs
count_less p q [] h e = absurd (cc)
count_less p q (x ∷ xs) h e =
    let less : cond (p x) 1 0 + count_by p xs < cond (q x) 1 0 + count_by q xs = elim (or_cases (q x && not (p x)) (list_any (λ y. q y && not (p y)) xs) e) [
      | inl here ↦ (let both = and_parts (q x) (not (p x)) here in one_fewer (p x) (q x) (count_by p xs) (count_by q xs) (not-true (p x) both.1) both.0 (count_most p q xs h))
      | inr there ↦ still_fewer (p x) (q x) (count_by p xs) (count_by q xs) (h x) (count_less p q xs h there)
    ] in
    omega (arith, one p x xs, one q x xs)

within_of : (g : List Class) (c : ℕ) (o : Option Class) → slice_get g c ≡ o → is_concrete_of (option_map abstract_in o) ≡ true → c < length g
within_of g c None e concrete = absurd (cc)
within_of g c (Some x) e concrete = slice_get_within g c x e

-- a concrete class is one of the grammar
pub concrete_within : (g : List Class) (c : ℕ) → is_concrete g c ≡ true → c < length g
concrete_within g c concrete = within_of g c (slice_get g c) refl concrete

pub concrete_below_within : (g : List Class) (d c : ℕ) → is_concrete_below g d c ≡ true → c < length g
concrete_below_within g d c e = concrete_within g c (and_parts (is_concrete g c) (is_sub g c d) e).0

module _ (g : List Class) (covered : ℕ → Via → Bool) where
  -- what a component says, of which a node may hang uncovered
  pub record Hangs (p c k : ℕ) : Type 0 where
    pub component : Component
    pub there : component_at g p k ≡ Some component
    pub nodes : is_for_nodes component.shape ≡ true
    pub uncovered : covered p (by_component k) ≡ false
    pub concrete : is_concrete g c ≡ true
    pub below : is_sub g c component.class.0 ≡ true

  hangs_of : (p c k : ℕ) (o : Option Component) → component_at g p k ≡ o → may_hang_at g covered p c k o ≡ true → Hangs p c k
  hangs_of p c k None there e = absurd (cc)
  hangs_of p c k (Some x) there e =
      let open_there = not (covered p (by_component k)) in
      let concrete = is_concrete_below g x.class.0 c in
      let nodes = and_parts (is_for_nodes x.shape) (open_there && concrete) e in
      let uncovered = and_parts open_there concrete nodes.1 in
      let below = and_parts (is_concrete g c) (is_sub g c x.class.0) uncovered.1 in
      record { component = x; there = there; nodes = nodes.0; uncovered = not-true (covered p (by_component k)) uncovered.0; concrete = below.0; below = below.1 }

  pub hangs_somewhere : (p c : ℕ) → may_hang g covered p c ≡ true → (k : ℕ) × Hangs p c k
  hangs_somewhere p c e =
      let found = range_passes (λ k. may_hang_at g covered p c k (component_at g p k)) (length (components_of g p)) e in
      (found.0, hangs_of p c found.0 (component_at g p found.0) refl found.2)

  pub hangs_here : (p c k : ℕ) → Hangs p c k → may_hang g covered p c ≡ true
  hangs_here p c k h =
      let x = h.component in
      let uncovered = not (covered p (by_component k)) in
      let below = is_concrete_below g x.class.0 c in
      let open_there : uncovered ≡ true = not_from_false (covered p (by_component k)) h.uncovered in
      let concrete = and_from (is_concrete g c) (is_sub g c x.class.0) h.concrete h.below in
      let passes : may_hang_at g covered p c k (Some x) ≡ true = and_from (is_for_nodes x.shape) (uncovered && below) h.nodes (and_from uncovered below open_there concrete) in
      range_has (λ j. may_hang_at g covered p c j (component_at g p j)) (length (components_of g p)) k (slice_get_within (components_of g p) k x h.there) (ap (may_hang_at g covered p c k) h.there ∙ passes)

  -- what a root says of class c that nothing covers
  pub record IsRoot (p c : ℕ) (m : Created) : Type 0 where
    pub class : m.class.0 ≡ c
    pub within : m.class.0 < length g
    pub uncovered : covered p (ByCreated m.attribute) ≡ false

  pub root_parts : (p c : ℕ) (m : Created) → is_root_of g covered p c m ≡ true → IsRoot p c m
  root_parts p c m e =
      let both = and_parts (is_open_root g covered p m) (m.class.0 == c) e in
      let parts = and_parts (ltb m.class.0 (length g)) (not (covered p (ByCreated m.attribute))) both.0 in
      record { class = eqb-true m.class.0 c both.1; within = ltb-true m.class.0 (length g) parts.0; uncovered = not-true (covered p (ByCreated m.attribute)) parts.1 }

  -- what may follow is of a class of the grammar
  follow_within : (made : List Created) (p c : ℕ) → may_follow g covered made p c ≡ true → c < length g
  follow_within made p c e = elim (or_cases (may_hang g covered p c) (may_be_made g covered made p c) e) [
    | inl hangs ↦ concrete_within g c (hangs_somewhere p c hangs).1.concrete
    | inr is ↦ (let at = Any-from_list_any (is_root_of g covered p c) made is in
        let root = root_parts p c at.1 at.4 in
        subst (λ n. n < length g) root.class root.within)
  ]

module _ (g : List Class) (covered : ℕ → Via → Bool) (made : ℕ → List Created) where
  -- a node of class c may follow uncovered at one of class p
  abbrev pub follows : ℕ → ℕ → Bool
  follows p c = may_follow g covered (made p) p c

  found_within : (n c : ℕ) → is_found_in g covered made n c ≡ true → c < length g
  found_within zero c e = concrete_below_within g 0 c e
  found_within (suc n) c e = elim (or_cases (is_found_in g covered made n c) (list_any (λ p. is_found_in g covered made n p && follows p c) (class_numbers g)) e) [
    | inl before ↦ found_within n c before
    | inr added ↦ (let from = range_passes (λ p. is_found_in g covered made n p && follows p c) (length g) added in
        follow_within g covered (made from.0) from.0 c (and_parts (is_found_in g covered made n from.0) (follows from.0 c) from.2).1)
  ]

  -- what follows a class that is found is found in the next round
  found_next : (n p c : ℕ) → is_found_in g covered made n p ≡ true → follows p c ≡ true → is_found_in g covered made (suc n) c ≡ true
  found_next n p c found hangs =
      or_right (is_found_in g covered made n c) (list_any (λ p. is_found_in g covered made n p && follows p c) (class_numbers g))
      (range_has (λ p. is_found_in g covered made n p && follows p c) (length g) p (found_within n p found) (and_from (is_found_in g covered made n p) (follows p c) found hangs))

  found_later : (n c : ℕ) → is_found_in g covered made n c ≡ true → is_found_in g covered made (suc n) c ≡ true
  found_later n c found = or_left (is_found_in g covered made n c) (list_any (λ p. is_found_in g covered made n p && follows p c) (class_numbers g)) found

  -- the round behind so many adds a class
  abbrev adds : ℕ → Bool
  adds n = list_any (λ c. is_found_in g covered made (suc n) c && not (is_found_in g covered made n c)) (class_numbers g)

  adds_none : (n c : ℕ) → adds n ≡ false → is_found_in g covered made (suc n) c ≡ true → is_found_in g covered made n c ≡ true
  adds_none n c none found =
      let new = λ (c : ℕ). is_found_in g covered made (suc n) c && not (is_found_in g covered made n c) in
      let here : new c ≡ false = subst (λ x. new x ≡ false) (zero-add c) (range_fails new 0 (length g) c none (found_within (suc n) c found)) in
      elim (and_cases (is_found_in g covered made (suc n) c) (not (is_found_in g covered made n c)) here) [
        | inl never ↦ absurd (cc)
        | inr old ↦ not-false (is_found_in g covered made n c) old
      ]

  -- where a round adds none, none does behind it
  found_before : (n c : ℕ) → adds n ≡ false → is_found_in g covered made (suc (suc n)) c ≡ true → is_found_in g covered made (suc n) c ≡ true
  found_before n c none found = elim (or_cases (is_found_in g covered made (suc n) c) (list_any (λ p. is_found_in g covered made (suc n) p && follows p c) (class_numbers g)) found) [
    | inl before ↦ before
    | inr added ↦ (let from = range_passes (λ p. is_found_in g covered made (suc n) p && follows p c) (length g) added in
        let both = and_parts (is_found_in g covered made (suc n) from.0) (follows from.0 c) from.2 in
        found_next n from.0 c (adds_none n from.0 none both.0) both.1)
  ]

  adds_before : (n : ℕ) → adds (suc n) ≡ true → adds n ≡ true
  adds_before n e = elim (cases_Bool (adds n)) [
    | inl more ↦ more
    | inr nothing ↦ (let new = range_passes (λ c. is_found_in g covered made (suc (suc n)) c && not (is_found_in g covered made (suc n) c)) (length g) e in
        let both = and_parts (is_found_in g covered made (suc (suc n)) new.0) (not (is_found_in g covered made (suc n) new.0)) new.2 in
        let before = found_before n new.0 nothing both.0 in
        let never = not-true (is_found_in g covered made (suc n) new.0) both.1 in
        absurd (cc))
  ]

  -- so a round that adds a class has more of them than there were rounds
  many : (n : ℕ) → adds n ≡ true → n < count_by (is_found_in g covered made (suc n)) (class_numbers g)
  many zero e = let more = count_less (is_found_in g covered made zero) (is_found_in g covered made (suc zero)) (class_numbers g) (found_later zero) e in omega arith
  many (suc n) e =
      let before = many n (adds_before n e) in
      let more = count_less (is_found_in g covered made (suc n)) (is_found_in g covered made (suc (suc n))) (class_numbers g) (found_later (suc n)) e in
      omega arith

  last_round : adds (length g) ≡ false
  last_round = elim (cases_Bool (adds (length g))) [
    | inl passes ↦ (let more = many (length g) passes in
        let most = count_by-le-length (is_found_in g covered made (suc (length g))) (class_numbers g) in
        let all = length-range_with_len 0 (length g) in
        absurd (omega arith))
    | inr nothing ↦ nothing
  ]

  -- the classes of the root can be met
  rooted_in : (n c : ℕ) → is_concrete_below g 0 c ≡ true → is_found_in g covered made n c ≡ true
  rooted_in zero c e = e
  rooted_in (suc n) c e = found_later n c (rooted_in n c e)

  pub rooted : (c : ℕ) → is_concrete_below g 0 c ≡ true → is_uncovered g covered made c ≡ true
  unfolding is_uncovered
  rooted c e = rooted_in (length g) c e

  -- and so can those of what may follow nodes of one that can be met
  pub closed : (p c : ℕ) → is_uncovered g covered made p ≡ true → follows p c ≡ true → is_uncovered g covered made c ≡ true
  unfolding is_uncovered
  closed p c found hangs = adds_none (length g) c last_round (found_next (length g) p c found hangs)

  -- they are the least such classes
  module _ (P : ℕ → Type 0) (root : (c : ℕ) → is_concrete_below g 0 c ≡ true → P c) (below : (p c : ℕ) → P p → follows p c ≡ true → P c) where
    least_in : (n c : ℕ) → is_found_in g covered made n c ≡ true → P c
    least_in zero c e = root c e
    least_in (suc n) c e = elim (or_cases (is_found_in g covered made n c) (list_any (λ p. is_found_in g covered made n p && follows p c) (class_numbers g)) e) [
      | inl before ↦ least_in n c before
      | inr added ↦ (let from = range_passes (λ p. is_found_in g covered made n p && follows p c) (length g) added in
          let both = and_parts (is_found_in g covered made n from.0) (follows from.0 c) from.2 in
          below from.0 c (least_in n from.0 both.0) both.1)
    ]

    pub least : (c : ℕ) → is_uncovered g covered made c ≡ true → P c
    unfolding is_uncovered
    least c e = least_in (length g) c e
