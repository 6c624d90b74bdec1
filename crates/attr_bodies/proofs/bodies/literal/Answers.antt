use Rattle.std.proofs.Common.{◌≡◌, ℕ, ◌+◌, ◌<◌, ◌^◌, ℤ, pos, rules, unsigned_abs, arith, ap, ◌∙◌, refl, sym}
use Rattle.std.specs.Int.{cast_signed, int_wrap}
use Rattle.std.proofs.Math.Nat.{mod-eq_of_lt}
use Rattle.std.proofs.lemmas.Int.{int_rem_euclid_is, wraps}
use mir.Syntax.{w32}
use Rattle.attr_bodies.proofs.bodies.literal.Goals as goal

-- a number of 32 bits wraps to its two's complement
signed : (v : ℕ) → v < 2 ^ 32 → cast_signed w32 v ≡ int_wrap w32 (pos v)
unfolding int_wrap
signed v h =
    let none : v + 0 ≡ v = omega arith in
    ap (λ (z : ℤ). cast_signed w32 (unsigned_abs z)) (sym (int_rem_euclid_is (pos v) (pos (2 ^ 32)) (2 ^ 32) 0 v (omega arith) refl (ap pos none) ∙ ap pos (mod-eq_of_lt h)))

pub returns : goal.returns
returns c = let e = signed c.args.number c.ranges.number.fits in search (rules, wraps)
