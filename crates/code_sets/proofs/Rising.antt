-- Lists of codes that rise, and which codes they have.
use Rattle.std.proofs.Common.{Less, ◌≡◌, ◌≢◌, ℕ, zero, suc, ◌+◌, ◌<◌, ◌≤◌, Bool, true, false, ◌&&◌, ◌||◌, cond, List, [], ◌∷◌, ◌++◌, refl, sym, ap, ◌∙◌, arith}
use mathlib.Core.Logic.{dite}
use native.Mathlib.Decide.{ℕ_discrete}
use Rattle.std.specs.Cmp.{nat_cmp_is, unsigned_tied}
use Rattle.std.specs.Ordering.{eq_by_cmp, nat_cmp}
use Rattle.std.specs.List.{AllByRecursion, filter, range_with_len}
use Rattle.std.specs.List.Sorted.{IsStrictlySortedBy}
use Rattle.std.proofs.lemmas.Bool.{eq-eqb, eqb-true, false≢true, ne_eqb}
use Rattle.std.proofs.lemmas.List.Folds.{list_any-append}
use Rattle.std.proofs.lemmas.Map.Views.{any-filter_same}
use Rattle.code_sets.specs.Members.{Rises, has_code}

-- ---- a fact of each element

pub each_map : {P Q : ℕ → Type 0} → ((x : ℕ) → P x → Q x) → (xs : List ℕ) → AllByRecursion P xs → AllByRecursion Q xs
each_map f [] h = tt
each_map f (x ∷ xs) h = (f x h.0, each_map f xs h.1)

pub each_both : (P : ℕ → Type 0) (xs ys : List ℕ) → AllByRecursion P xs → AllByRecursion P ys → AllByRecursion P (xs ++ ys)
each_both P [] ys h k = k
each_both P (x ∷ xs) ys h k = (h.0, each_both P xs ys h.1 k)

pub each_kept : (P : ℕ → Type 0) (p : ℕ → Bool) (xs : List ℕ) → AllByRecursion P xs → AllByRecursion P (filter p xs)
each_kept P p [] h = tt
each_kept P p (x ∷ xs) h = kept (p x) (each_kept P p xs h.1)
  where
    kept : (b : Bool) → AllByRecursion P (filter p xs) → AllByRecursion P (cond b (x ∷ filter p xs) (filter p xs))
    kept true rest = (h.0, rest)
    kept false rest = rest

-- ---- the order of numbers

pub is_less : (x y : ℕ) → x < y → nat_cmp x y ≡ Less
is_less x y h = sym (nat_cmp_is x y Less h)

pub less_is : (x y : ℕ) → nat_cmp x y ≡ Less → x < y
less_is x y e = grind arith

pub rises_none : Rises []
unfolding IsStrictlySortedBy
rises_none = tt

-- lists that rise, one after the other, with a number between them
pub rises_both : (m : ℕ) (xs ys : List ℕ) → Rises xs → Rises ys → AllByRecursion (λ x. x < m) xs → AllByRecursion (λ y. m ≤ y) ys → Rises (xs ++ ys)
unfolding IsStrictlySortedBy
rises_both m [] ys r s low high = s
rises_both m (x ∷ xs) ys r s low high = (each_both _ xs ys r.0 (each_map (λ y h. is_less x y (let l = low.0 in omega (arith, l, h))) ys high), rises_both m xs ys r.1 s low.1 high)

-- ---- n numbers from one on

pub range_from : (b a n : ℕ) → b ≤ a → AllByRecursion (λ x. b ≤ x) (range_with_len a n)
range_from b a zero h = tt
range_from b a (suc n) h = (h, range_from b (a + 1) n (omega (arith, h)))

pub range_below : (a n m : ℕ) → a + n ≤ m → AllByRecursion (λ x. x < m) (range_with_len a n)
range_below a zero m h = tt
range_below a (suc n) m h = (omega (arith, h), range_below (a + 1) n m (omega (arith, h)))

pub range_rises : (a n : ℕ) → Rises (range_with_len a n)
unfolding IsStrictlySortedBy
range_rises a zero = tt
range_rises a (suc n) = (each_map (λ y h. is_less a y (omega (arith, h))) (range_with_len (a + 1) n) (range_from (a + 1) (a + 1) n (omega arith)), range_rises (a + 1) n)

-- ---- which codes a list has

pub tied : (c x : ℕ) → c ≡ x → eq_by_cmp nat_cmp c x ≡ true
tied c x e = unsigned_tied c x ∙ eq-eqb c x e

pub tied_is : (c x : ℕ) → eq_by_cmp nat_cmp c x ≡ true → c ≡ x
tied_is c x e = eqb-true c x (sym (unsigned_tied c x) ∙ e)

pub apart : (c x : ℕ) → c ≢ x → eq_by_cmp nat_cmp c x ≡ false
apart c x e = unsigned_tied c x ∙ ne_eqb c x e

later : (a b : Bool) → b ≡ true → (a || b) ≡ true
later true b e = refl
later false b e = e

pub has_itself : (c x : ℕ) (cs : List ℕ) → c ≡ x → has_code (x ∷ cs) c ≡ true
has_itself c x cs e = ap (λ b. b || has_code cs c) (tied c x e)

pub has_later : (c x : ℕ) (cs : List ℕ) → has_code cs c ≡ true → has_code (x ∷ cs) c ≡ true
has_later c x cs e = later (eq_by_cmp nat_cmp c x) (has_code cs c) e

pub has_other : (c x : ℕ) (cs : List ℕ) → c ≢ x → has_code (x ∷ cs) c ≡ has_code cs c
has_other c x cs e = ap (λ b. b || has_code cs c) (apart c x e)

pub has_both : (xs ys : List ℕ) (c : ℕ) → has_code (xs ++ ys) c ≡ (has_code xs c || has_code ys c)
has_both xs ys c = list_any-append (eq_by_cmp nat_cmp c) xs ys

pub has_kept : (p : ℕ → Bool) (xs : List ℕ) (c : ℕ) → has_code (filter p xs) c ≡ (p c && has_code xs c)
has_kept p xs c = any-filter_same (eq_by_cmp nat_cmp c) p (p c) (λ k e. ap p (sym (tied_is c k e))) xs

pub has_range : (a n c : ℕ) → a ≤ c → c < a + n → has_code (range_with_len a n) c ≡ true
has_range a zero c h k = absurd (omega (arith, h, k))
has_range a (suc n) c h k = dite (ℕ_discrete c a) (has_itself c a (range_with_len (a + 1) n)) (λ e. has_later c a (range_with_len (a + 1) n) (has_range (a + 1) n c (omega (arith, h, e)) (omega (arith, k))))

pub has_not_below : (m : ℕ) (xs : List ℕ) (c : ℕ) → AllByRecursion (λ x. x < m) xs → m ≤ c → has_code xs c ≡ false
has_not_below m [] c h k = refl
has_not_below m (x ∷ xs) c h k = has_other c x xs (λ e. let l = h.0 in absurd (omega (arith, l, k, e))) ∙ has_not_below m xs c h.1 k

pub has_not_above : (m : ℕ) (xs : List ℕ) (c : ℕ) → AllByRecursion (λ x. m ≤ x) xs → c < m → has_code xs c ≡ false
has_not_above m [] c h k = refl
has_not_above m (x ∷ xs) c h k = has_other c x xs (λ e. let l = h.0 in absurd (omega (arith, l, k, e))) ∙ has_not_above m xs c h.1 k

-- a list that rises and has one code is that code
pub only_one : (x : ℕ) (zs : List ℕ) → Rises zs → ((c : ℕ) → has_code zs c ≡ eq_by_cmp nat_cmp c x) → zs ≡ x ∷ []
unfolding IsStrictlySortedBy
only_one x [] r h = absurd (false≢true (h x ∙ tied x x refl))
only_one x (z ∷ []) r h = ap (λ y. y ∷ []) (tied_is z x (sym (h z) ∙ has_itself z z [] refl))
only_one x (z ∷ w ∷ zs) r h =
    let first = tied_is z x (sym (h z) ∙ has_itself z z (w ∷ zs) refl) in
    let second = tied_is w x (sym (h w) ∙ has_later w z (w ∷ zs) (has_itself w w zs refl)) in
    let less = less_is z w r.0.0 in
    absurd (omega (arith, first, second, less))
