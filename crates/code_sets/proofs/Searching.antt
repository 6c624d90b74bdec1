-- What a search among words finds.
use Rattle.std.proofs.Common.{◌≡◌, ℕ, zero, suc, ◌-◌, ◌<◌, ◌≤◌, length, get_or, take, drop, List, [], ◌∷◌, Result, Ok, Err, IfOk, IfErr, refl, sym, ap, subst, arith}
use Rattle.std.specs.List.{AllByRecursion}
use Rattle.std.specs.List.Sorted.{IsBinarySearchResult, IsNonDecreasingBy, IsSearchInRange, IsStrictlySortedBy}
use Rattle.std.specs.Ordering.{nat_cmp, ordering_index}
use Rattle.std.proofs.lemmas.Bool.Decides.{nat_tests}
use Rattle.std.proofs.lemmas.Cmp.{ranked}
use Rattle.code_sets.specs.declared.word.Word.{Word}
use Rattle.code_sets.specs.Members.{Rises}
use Rattle.code_sets.specs.Places.{IsAt, IsGapFor}
use Rattle.code_sets.specs.Words.{numbers_of}
use Rattle.code_sets.proofs.Rising.{each_map, less_is}

-- ---- the numbers at places

pub each_before : (P : ℕ → Type 0) (es : List Word) (at : ℕ) → ((k : ℕ) (d : Word) → k < at → P (get_or es k d).number) → at ≤ length es → AllByRecursion P (numbers_of (take at es))
each_before P es zero h le = tt
each_before P [] (suc at) h le = absurd (omega (arith, le))
each_before P (w ∷ es) (suc at) h le = (h 0 w (omega arith), each_before P es at (λ k d lt. h (suc k) d (omega (arith, lt))) (omega (arith, le)))

pub each_from : (P : ℕ → Type 0) (es : List Word) (at : ℕ) → ((k : ℕ) (d : Word) → at ≤ k → k < length es → P (get_or es k d).number) → AllByRecursion P (numbers_of (drop at es))
each_from P [] zero h = tt
each_from P [] (suc at) h = tt
each_from P (w ∷ es) zero h = (h 0 w (omega arith) (omega arith), each_from P es zero (λ k d le lt. h (suc k) d (omega arith) (omega (arith, lt))))
each_from P (w ∷ es) (suc at) h = each_from P es at (λ k d le lt. h (suc k) d (omega (arith, le)) (omega (arith, lt)))

pub each_at : (P : ℕ → Type 0) (es : List Word) (k : ℕ) (d : Word) → AllByRecursion P (numbers_of es) → k < length es → P (get_or es k d).number
each_at P [] k d h lt = absurd (omega (arith, lt))
each_at P (w ∷ es) zero d h lt = h.0
each_at P (w ∷ es) (suc k) d h lt = each_at P es k d h.1 (omega (arith, lt))

numbers_rise : (es : List Word) (i j : ℕ) (d : Word) → Rises (numbers_of es) → i ≤ j → j < length es → (get_or es i d).number ≤ (get_or es j d).number
unfolding IsStrictlySortedBy
numbers_rise [] i j d r le lt = absurd (omega (arith, lt))
numbers_rise (w ∷ es) zero zero d r le lt = omega arith
numbers_rise (w ∷ es) zero (suc j) d r le lt =
    let after : w.number < (get_or es j d).number = each_at (λ n. w.number < n) es j d (each_map (λ n h. less_is w.number n h) (numbers_of es) r.0) (omega (arith, lt)) in
    omega (arith, after)
numbers_rise (w ∷ es) (suc i) zero d r le lt = absurd (omega (arith, le))
numbers_rise (w ∷ es) (suc i) (suc j) d r le lt = numbers_rise es i j d r.1 (omega (arith, le)) (omega (arith, lt))

-- where the last number is below another, all are
below_last : (n : ℕ) (es : List Word) (d : Word) → Rises (numbers_of es) → (get_or es (length es - 1) d).number < n → AllByRecursion (λ m. m < n) (numbers_of es)
below_last n es d r last = each_map (λ m h. omega (arith, h, last)) (numbers_of es) (upto es (get_or es (length es - 1) d).number (λ k lt. numbers_rise es k (length es - 1) d r (omega (arith, lt)) (omega (arith, lt))))
  where
    upto : (xs : List Word) (m : ℕ) → ((k : ℕ) → k < length xs → (get_or xs k d).number ≤ m) → AllByRecursion (λ a. a ≤ m) (numbers_of xs)
    upto [] m h = tt
    upto (w ∷ xs) m h = (h 0 (omega arith), upto xs m (λ k lt. h (suc k) (omega (arith, lt))))

pub gap_behind : (n : ℕ) (es : List Word) (d : Word) → Rises (numbers_of es) → (get_or es (length es - 1) d).number < n → IsGapFor es n (length es)
gap_behind n es d r last = record {
  in_range = omega arith;
  before = subst (λ (l : List Word). AllByRecursion (λ m. m < n) (numbers_of l)) (sym (whole es)) (below_last n es d r last);
  after = each_from (λ m. n < m) es (length es) (λ k d le lt. absurd (omega (arith, le, lt)));
}
  where
    whole : (xs : List Word) → take (length xs) xs ≡ xs
    whole [] = refl
    whole (w ∷ xs) = ap (λ (l : List Word). w ∷ l) (whole xs)

-- ---- the search

module _ (es : List Word) (rise : Rises (numbers_of es)) (n : ℕ) where
  comparisons_rise : IsNonDecreasingBy (λ w. ordering_index (nat_cmp w.number n)) es
  comparisons_rise i j d le lt =
      let rises = numbers_rise es i j d rise le lt in
      grind (arith, nat_tests, rises)

  pub searched : (r : Result ℕ ℕ) → IsSearchInRange r (length es) → IsBinarySearchResult (λ w. nat_cmp w.number n) es r → IfOk r (IsAt es n) × IfErr r (IsGapFor es n)
  searched (Ok at) in_range equal = (record { in_range = in_range; has_number = λ d. ranked _ n _ (sym (equal d)) }, tt)
  searched (Err at) in_range parted = (
    tt,
    record {
      in_range = in_range;
      before = each_before (λ m. m < n) es at (λ k d lt. ranked _ n _ (sym ((parted comparisons_rise).0 k d (omega arith) lt))) in_range;
      after = each_from (λ m. n < m) es at (λ k d le lt. ranked _ n _ (sym ((parted comparisons_rise).1 k d le lt)));
    },
  )
