-- The codes of a word are added at once.
use Rattle.std.proofs.Common.{◌≡◌, ℕ, Bool, true, false, ◌&&◌, ◌||◌, not, ◌-◌, ◌*◌, ◌<◌, ◌≤◌, ◌/◌, ◌%◌, ◌^◌, ◌⊎◌, inl, inr, ⊎_elim, List, refl, sym, ap, ◌∙◌, arith}
use mathlib.Core.Logic.{dite}
use native.Mathlib.Decide.{ℕ_discrete}
use mir.Syntax.{w64}
use Rattle.std.specs.Int.{bit_at, bit_not}
use Rattle.std.specs.Int.Bits.{bit_and}
use Rattle.std.proofs.lemmas.Bool.{cases_lt, eq-eqb, eqb-true, false_from_ne_true}
use Rattle.std.proofs.lemmas.Nat.{one_shl}
use Rattle.std.proofs.lemmas.Nat.Bits.{bit_at_ones, bit_at_ones_above}
use Rattle.code_sets.specs.Members.{AreMade}
use Rattle.code_sets.specs.Words.{codes_of_word, has_bit}
use Rattle.code_sets.proofs.Words.{has_each, has_others, word_has, word_lacks}
use Rattle.memo_cells.specs.SetShown.{AddsWord, AreBelow, IsInWord}

-- ---- the bits below a code

module _ (word code count : ℕ) (is : count ≡ code - word * 64) where
  pub all_below : 64 ≤ count → AreBelow word code (2 ^ 64 - 1)
  all_below all c lies = (λ e. omega (arith, is, all, lies), λ lt. bit_at_ones 64 (c % 64) (omega arith))

  pub some_below : count < 64 → AreBelow word code (1 * 2 ^ count % 2 ^ 64 - 1)
  some_below few c lies =
      let shifted : 1 * 2 ^ count % 2 ^ 64 ≡ 2 ^ count = one_shl count 64 few in
      let same : bit_at (1 * 2 ^ count % 2 ^ 64 - 1) (c % 64) ≡ bit_at (2 ^ count - 1) (c % 64) = ap (λ (m : ℕ). bit_at (m - 1) (c % 64)) shifted in (
        λ e. ⊎_elim (λ lt. omega (arith, is, lt, lies)) (λ ge. let none = sym same ∙ e in let zero = bit_at_ones_above count (c % 64) ge in absurd (omega (arith, none, zero))) (cases_lt (c % 64) count),
        λ lt. same ∙ bit_at_ones count (c % 64) (omega (arith, is, lt, lies)),
      )

-- ---- the bits between two codes

all_three : (x y z : Bool) → ((x && y) && not z) ≡ true → (x ≡ true) × (y ≡ true) × (z ≡ false)
all_three true true false e = (refl, refl, refl)
all_three true true true e = cc
all_three true false z e = cc
all_three false y z e = cc

three_all : (x y z : Bool) → x ≡ true → y ≡ true → z ≡ false → ((x && y) && not z) ≡ true
three_all x y z e f g = cc

module _ (word bits from to high low : ℕ) (small : low < 2 ^ 64) (below : AreBelow word to high) (before : AreBelow word from low) where
  abbrev masked : ℕ
  masked = bit_and (bit_and bits high) (bit_not w64 low)

  parts : (c : ℕ) → has_bit masked c ≡ ((has_bit bits c && has_bit high c) && not (has_bit low c))
  parts c = has_each (bit_and bits high) (bit_not w64 low) c ∙ ap (λ b. b && has_bit (bit_not w64 low) c) (has_each bits high c) ∙ ap (λ b. (has_bit bits c && has_bit high c) && b) (has_others low c small)

  bit_in : (c : ℕ) → IsInWord word bits from to c → has_bit masked c ≡ true
  bit_in c w =
      parts c
      ∙ three_all (has_bit bits c) (has_bit high c) (has_bit low c) (eq-eqb _ 1 w.bit) (eq-eqb _ 1 ((below c w.lies).1 w.below))
      (false_from_ne_true (has_bit low c) (λ e. let least = w.least in let lt = (before c w.lies).0 (eqb-true _ 1 e) in omega (arith, least, lt)))

  in_bit : (c : ℕ) → c / 64 ≡ word → has_bit masked c ≡ true → IsInWord word bits from to c
  in_bit c lies e =
      let three = all_three (has_bit bits c) (has_bit high c) (has_bit low c) (sym (parts c) ∙ e) in record {
        lies = lies;
        least = ⊎_elim (λ lt. let set : has_bit low c ≡ true = eq-eqb _ 1 ((before c lies).1 lt) in let unset = three.2 in cc) (λ ge. ge) (cases_lt c from);
        below = (below c lies).0 (eqb-true _ 1 three.1);
        bit = eqb-true _ 1 three.0;
      }

  first : (a b : Bool) → a ≡ true → (a || b) ≡ true
  first a b e = cc

  second : (a b : Bool) → b ≡ true → (a || b) ≡ true
  second true b e = refl
  second false b e = e

  either : (a b : Bool) → (a || b) ≡ true → (a ≡ true) ⊎ (b ≡ true)
  either true b e = inl refl
  either false b e = inr e

  pub adds_word : (old new : List ℕ) → AreMade (λ a b. a || b) old (codes_of_word word masked) new → AddsWord word bits from to old new
  adds_word old new made = record {
    kept = λ c e. made.members c ∙ first _ _ e;
    added = λ c w. made.members c ∙ second _ _ (word_has word masked c w.lies ∙ bit_in c w);
    only = λ c e.
        ⊎_elim inl
        (λ f.
        dite (ℕ_discrete (c / 64) word) (λ lies. inr (in_bit c lies (sym (word_has word masked c lies) ∙ f)))
        (λ other. let none = word_lacks word masked c other in cc))
        (either _ _ (sym (made.members c) ∙ e));
  }
