-- The integer of a code of 32 bits.
use Rattle.std.proofs.Common.{◌≡◌, ℕ, ◌+◌, ◌<◌, ◌^◌, ℤ, pos, unsigned_abs, arith, ap, ◌∙◌, refl, sym}
use Rattle.std.specs.Int.{cast_signed, int_wrap}
use Rattle.std.proofs.Math.Nat.{mod-eq_of_lt}
use Rattle.std.proofs.lemmas.Int.{int_rem_euclid_is}
use mir.Syntax.{w32}
use mir.Val.{SFits, of_z, to_z}
use Rattle.std.proofs.lemmas.Int.{to_z-of_z}
use Rattle.std.specs.Fmt.{signed_decimal}
use Rattle.tree_writer.specs.Canonical.{int_text}

-- it is the two's complement
pub signed : (v : ℕ) → v < 2 ^ 32 → cast_signed w32 v ≡ int_wrap w32 (pos v)
unfolding int_wrap
signed v h =
    let none : v + 0 ≡ v = omega arith in
    ap (λ (z : ℤ). cast_signed w32 (unsigned_abs z)) (sym (int_rem_euclid_is (pos v) (pos (2 ^ 32)) (2 ^ 32) 0 v (omega arith) refl (ap pos none) ∙ ap pos (mod-eq_of_lt h)))

-- its text
pub signed_text : (v : ℕ) (z : ℤ) → v < 2 ^ 32 → SFits w32 z → z ≡ cast_signed w32 v → signed_decimal (to_z w32 (of_z w32 z)) ≡ int_text v
signed_text v z h fits e = let same : to_z w32 (of_z w32 z) ≡ z = to_z-of_z w32 z fits in ap signed_decimal (same ∙ e ∙ signed v h)
