-- Words that get the mark of what is settled.
use Rattle.std.proofs.Common.{◌≡◌, ℕ, ◌+◌, ◌<◌, ◌≤◌, ◌^◌, zero, suc, cond, inl, inr, ⊎_elim, List, [], ◌∷◌, Some, length, get_or, slice_get, refl, sym, ap, arith}
use mathlib.Core.Logic.{dite}
use native.Mathlib.Decide.{dec_le}
use Rattle.std.proofs.lemmas.Bool.{le-leb, lt-leb}
use Rattle.memo_cells.specs.declared.keys.Slot.{Slot}
use Rattle.memo_cells.specs.Sealing.{places, places_left}
use Rattle.memo_cells.specs.Views.{Has, with_mark}

pub mark_high : (x : ℕ) → 2 ^ 63 ≤ x → with_mark x ≡ x
mark_high x high = ap (λ b. cond b x (x + 2 ^ 63)) (le-leb (2 ^ 63) x high)

pub mark_low : (x : ℕ) → x < 2 ^ 63 → with_mark x ≡ x + 2 ^ 63
mark_low x low = ap (λ b. cond b x (x + 2 ^ 63)) (lt-leb (2 ^ 63) x low)

pub mark_is : (x : ℕ) → 2 ^ 63 ≤ with_mark x
mark_is x = dite (dec_le (2 ^ 63) x) (λ h. let e = mark_high x h in omega (arith, e, h)) (λ n. let e = mark_low x (omega arith) in omega (arith, e))

-- a slot of the list is among their places
pub slot_among : (slots : List Slot) (k : ℕ) (d : Slot) → k < length slots → Has (places slots) (get_or slots k d).0
slot_among [] k d lt = absurd (omega arith)
slot_among (s ∷ slots) zero d lt = inl refl
slot_among (s ∷ slots) (suc k) d lt = inr (slot_among slots k d (omega arith))

-- it is the first of those that are left
pub slot_left : (slots : List Slot) (k : ℕ) (d : Slot) → k < length slots → places_left k slots ≡ (get_or slots k d).0 ∷ places_left (suc k) slots
slot_left [] k d lt = absurd (omega arith)
slot_left (s ∷ slots) zero d lt = refl
slot_left (s ∷ slots) (suc k) d lt = slot_left slots k d (omega arith)

-- and then none is
pub none_after : (slots : List Slot) → places_left (length slots) slots ≡ []
none_after [] = refl
none_after (s ∷ slots) = none_after slots

-- the place of a number is that of its slot
pub place_is : (slots : List Slot) (n : ℕ) (d : Slot) (s : ℕ) → slice_get (places slots) n ≡ Some s → s ≡ (get_or slots n d).0
place_is [] n d s e = cc
place_is (x ∷ slots) zero d s e = cc
place_is (x ∷ slots) (suc n) d s e = place_is slots n d s e

-- and each place has one
pub number_of : (slots : List Slot) (s : ℕ) → Has (places slots) s → (n : ℕ) × (n < length slots) × (slice_get (places slots) n ≡ Some s)
number_of [] s h = absurd h
number_of (x ∷ slots) s h = ⊎_elim (λ e. (0, omega arith, ap Some (sym e))) (λ r. let t = number_of slots s r in (suc t.0, omega (arith, t.1), t.2)) h
