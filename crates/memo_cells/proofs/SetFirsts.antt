-- The first codes of a list, and the bits that they have in a word.
use Rattle.std.proofs.Common.{◌≡◌, ℕ, zero, suc, ◌+◌, ◌*◌, ◌^◌, ◌<◌, ◌≤◌, ◌/◌, ◌%◌, ◌⊎◌, inl, inr, ⊎_elim, List, [], ◌∷◌, length, get_or, take, refl, sym, ap, ◌∙◌, subst, arith}
use mathlib.Core.Logic.{dite}
use native.Mathlib.Decide.{ℕ_discrete}
use mir.Syntax.{w64}
use Rattle.std.specs.Int.{bit_at}
use Rattle.std.specs.Int.Bits.{bit_or}
use Rattle.std.proofs.lemmas.Nat.Bits.{bit_at-zero, bit_at_set_other, bit_at_set_same}
use Rattle.memo_cells.specs.Views.{Has}

-- one more of the first elements
pub has_more : (xs : List ℕ) (n c : ℕ) → Has (take n xs) c → Has (take (suc n) xs) c
has_more [] zero c h = h
has_more [] (suc n) c h = h
has_more (x ∷ xs) zero c h = absurd h
has_more (x ∷ xs) (suc n) c h = ⊎_elim inl (λ r. inr (has_more xs n c r)) h

pub has_next : (xs : List ℕ) (n : ℕ) → n < length xs → Has (take (suc n) xs) (get_or xs n 0)
has_next [] n lt = absurd (omega arith)
has_next (x ∷ xs) zero lt = inl refl
has_next (x ∷ xs) (suc n) lt = inr (has_next xs n (omega arith))

pub more_has : (xs : List ℕ) (n c : ℕ) → n < length xs → Has (take (suc n) xs) c → Has (take n xs) c ⊎ (c ≡ get_or xs n 0)
more_has [] n c lt h = absurd h
more_has (x ∷ xs) zero c lt h = ⊎_elim inr (λ r. absurd r) h
more_has (x ∷ xs) (suc n) c lt h = ⊎_elim (λ e. inl (inl e)) (λ r. ⊎_elim (λ k. inl (inr k)) inr (more_has xs n c (omega arith) r)) h

-- so many of the first codes all lie in this word, and have these bits in it
pub record Gathers (codes : List ℕ) (word count bits : ℕ) : Type 0 where
  pub within : count ≤ length codes
  pub lie : (c : ℕ) → Has (take count codes) c → c / 64 ≡ word
  pub set : (c : ℕ) → Has (take count codes) c → bit_at bits (c % 64) ≡ 1
  pub only : (b : ℕ) → bit_at bits b ≡ 1 → (c : ℕ) × Has (take count codes) c × (c % 64 ≡ b)

pub gathers_none : (codes : List ℕ) (word : ℕ) → Gathers codes word 0 0
gathers_none codes word = record { within = omega arith; lie = λ c h. absurd h; set = λ c h. absurd h; only = λ b e. let none = bit_at-zero b in absurd (omega (arith, none, e)) }

-- the bit of one code more
module _ (codes : List ℕ) (word count bits : ℕ) (so_far : Gathers codes word count bits) (more : count < length codes) where
  abbrev code : ℕ
  code = get_or codes count 0

  abbrev with_code : ℕ
  with_code = bit_or bits (1 * 2 ^ (code % 64) % 2 ^ 64)

  there : (c : ℕ) → bit_at bits (c % 64) ≡ 1 → bit_at with_code (c % 64) ≡ 1
  there c e = dite (ℕ_discrete (c % 64) (code % 64)) (λ same. ap (bit_at with_code) same ∙ bit_at_set_same w64 bits (code % 64) (omega arith)) (λ apart. bit_at_set_other w64 bits (code % 64) (omega arith) (c % 64) apart ∙ e)

  with_next : code / 64 ≡ word → Gathers codes word (suc count) with_code
  with_next lies = record {
    within = omega (arith, more);
    lie = λ c h. ⊎_elim (so_far.lie c) (λ e. ap (λ (y : ℕ). y / 64) e ∙ lies) (more_has codes count c more h);
    set = λ c h. ⊎_elim (λ r. there c (so_far.set c r)) (λ e. ap (λ (y : ℕ). bit_at with_code (y % 64)) e ∙ bit_at_set_same w64 bits (code % 64) (omega arith)) (more_has codes count c more h);
    only = λ b e.
        dite (ℕ_discrete b (code % 64)) (λ same. (code, has_next codes count more, sym same))
        (λ apart. let old = so_far.only b (sym (bit_at_set_other w64 bits (code % 64) (omega arith) b apart) ∙ e) in (old.0, has_more codes count old.0 old.1, old.2));
  }

  pub gathers_next : code / 64 ≡ word → Gathers codes word (count + 1) with_code
  gathers_next lies = let next : suc count ≡ count + 1 = omega arith in subst (λ (n : ℕ). Gathers codes word n with_code) next (with_next lies)
