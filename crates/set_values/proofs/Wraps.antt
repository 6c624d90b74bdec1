-- Numbers that wrap to integers of 32 bits.
use Rattle.std.proofs.Common.{◌≡◌, ℕ, ◌+◌, ◌^◌, ◌%◌, ℤ, pos, unsigned_abs, arith, ap, refl, sym}
use Rattle.std.specs.Int.{cast_signed, int_wrap}
use Rattle.std.proofs.lemmas.Int.{int_rem_euclid_is}
use mir.Syntax.{w32}

-- the low 32 bits of a number are its two's complement
pub low_bits : (n : ℕ) → cast_signed w32 (n % (2 ^ 32)) ≡ int_wrap w32 (pos n)
unfolding int_wrap
low_bits n =
    let none : n + 0 ≡ n = omega arith in
    ap (λ (z : ℤ). cast_signed w32 (unsigned_abs z)) (sym (int_rem_euclid_is (pos n) (pos (2 ^ 32)) (2 ^ 32) 0 n (omega arith) refl (ap pos none)))
