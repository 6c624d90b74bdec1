-- Items of lists by their places, and what a test that passes or fails says of them.
use Rattle.std.proofs.Common.{◌≡◌, ℕ, zero, suc, ◌+◌, ◌<◌, List, [], ◌∷◌, Bool, true, false, ◌||◌, All, Option, Some, None, is_none, option_map, get_or, nat_lt, take, map, position, slice_get, inl, inr, ◌⊎◌, refl, ap, sym, ◌∙◌, subst, arith}
use Rattle.std.specs.List.{cons_option, filter_map, list_any, range_with_len}
use Rattle.std.proofs.lemmas.Bool.{ltb-true}
use Rattle.std.proofs.lemmas.Bool.Decides.{nat_tests}
use Rattle.std.proofs.lemmas.List.Quantifiers.{position-Some}
use Rattle.std.proofs.lemmas.Option.{get_or_from_slice_get, slice_get-get_or, slice_get_within}
use Rattle.broken_rules.specs.declared.broken.Broken.{Broken}
use Rattle.broken_rules.specs.Notes.{each_after}
use Rattle.broken_rules.proofs.Clean.{each_after_none}

-- what holds of each item
pub all_found : {X : Type 0} (P : X → Type 0) (xs : List X) → ((i : ℕ) (x : X) → slice_get xs i ≡ Some x → P x) → All P xs
all_found P xs each = λ i d lt. each i (get_or xs i d) (slice_get-get_or xs i d lt)

-- an item of a list of images is that of an item
pub map_found : {X Y : Type 0} (f : X → Y) (xs : List X) (i : ℕ) (y : Y) → slice_get (map f xs) i ≡ Some y → (x : X) × (slice_get xs i ≡ Some x) × (f x ≡ y)
map_found f [] i y e = absurd (cc)
map_found f (x ∷ xs) zero y e = (x, refl, cc)
map_found f (x ∷ xs) (suc i) y e = map_found f xs i y e

-- an item of a list with one more in front, if there is one more
pub first_or_later : {Y : Type 0} (o : Option Y) (ys : List Y) (i : ℕ) (y : Y) → slice_get (cons_option o ys) i ≡ Some y → (o ≡ Some y) ⊎ ((k : ℕ) × (slice_get ys k ≡ Some y))
first_or_later None ys i y e = inr (i, e)
first_or_later (Some z) ys zero y e = inl e
first_or_later (Some z) ys (suc i) y e = inr (i, e)

-- what some items give is given by one of them
pub filter_found : {X Y : Type 0} (h : X → Option Y) (xs : List X) (i : ℕ) (y : Y) → slice_get (filter_map h xs) i ≡ Some y → (x : X) × (h x ≡ Some y)
filter_found h [] i y e = absurd (cc)
filter_found h (x ∷ xs) i y e = elim (first_or_later (h x) (filter_map h xs) i y e) [
  | inl is ↦ (x, is)
  | inr later ↦ filter_found h xs later.0 y later.1
]

-- the item at a position passes the test
pub position_found : {X : Type 0} (p : X → Bool) (xs : List X) (i : ℕ) → position p xs ≡ Some i → (x : X) × (slice_get xs i ≡ Some x) × (p x ≡ true)
position_found p [] i e = absurd (cc)
position_found p (x ∷ xs) i e = let at = position-Some p (x ∷ xs) i x e in (get_or (x ∷ xs) i x, slice_get-get_or (x ∷ xs) i x at.0, at.1)

-- what is there
pub some_there : {X : Type 0} (o : Option X) → is_none o ≡ false → (x : X) × (o ≡ Some x)
some_there None e = absurd (cc)
some_there (Some x) e = (x, refl)

-- what an image is of
pub some_from : {X Y : Type 0} (f : X → Y) (o : Option X) (y : Y) → option_map f o ≡ Some y → (x : X) × (o ≡ Some x) × (f x ≡ y)
some_from f None y e = absurd (cc)
some_from f (Some x) y e = (x, refl, cc)

-- what each item breaks after those before it
pub after_found : {X : Type 0} (f : List X → X → List Broken) (xs : List X) (i : ℕ) (x : X) → each_after f [] xs ≡ [] → slice_get xs i ≡ Some x → f (take i xs) x ≡ []
after_found f xs i x none e = ap (f (take i xs)) (sym (get_or_from_slice_get xs i x x e)) ∙ each_after_none f xs i x none (slice_get_within xs i x e)

pub either_false : (a b : Bool) → (a || b) ≡ false → (a ≡ false) × (b ≡ false)
either_false true b e = absurd (cc)
either_false false b e = (refl, e)

-- a test that no number of a range passes
pub range_fails : (p : ℕ → Bool) (first count k : ℕ) → list_any p (range_with_len first count) ≡ false → k < count → p (first + k) ≡ false
range_fails p first zero k e lt = absurd (omega arith)
range_fails p first (suc count) zero e lt =
    let here : first ≡ first + zero = omega arith in
    subst (λ n. p n ≡ false) here (either_false (p first) (list_any p (range_with_len (first + 1) count)) e).0
range_fails p first (suc count) (suc k) e lt =
    let shifted : (first + 1) + k ≡ first + suc k = omega arith in
    subst (λ n. p n ≡ false) shifted (range_fails p (first + 1) count k (either_false (p first) (list_any p (range_with_len (first + 1) count)) e).1 (omega arith))

-- a test that no item before a place passes, fails on each of them
pub before_fails : {X : Type 0} (p : X → Bool) (xs : List X) (i j : ℕ) (x : X) → list_any p (take j xs) ≡ false → slice_get xs i ≡ Some x → i < j → p x ≡ false
before_fails p [] i j x none there lt = absurd (cc)
before_fails p (y ∷ ys) i zero x none there lt = absurd (omega arith)
before_fails p (y ∷ ys) zero (suc j) x none there lt =
    let same : y ≡ x = cc in
    subst (λ z. p z ≡ false) same (either_false (p y) (list_any p (take j ys)) none).0
before_fails p (y ∷ ys) (suc i) (suc j) x none there lt = before_fails p ys i j x (either_false (p y) (list_any p (take j ys)) none).1 there (omega arith)

-- places of which none is before the other are the same
pub same_place : (i j : ℕ) → (i < j → ⊥) → (j < i → ⊥) → i ≡ j
same_place i j not_before not_after =
    elim (nat_lt i j) as (λ t. nat_lt i j ≡ t → i ≡ j) [
      | true ↦ λ lt. absurd (not_before (ltb-true i j lt))
      | false ↦ λ not_below. (
          elim (nat_lt j i) as (λ t. nat_lt j i ≡ t → i ≡ j) [
            | true ↦ λ lt. absurd (not_after (ltb-true j i lt))
            | false ↦ λ not_above. grind (arith, nat_tests)
          ] refl
          )
    ] refl
