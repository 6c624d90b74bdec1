use Rattle.std.proofs.Common.{◌^◌, ◌%◌, ℤ, arith, ap, ◌∙◌, of_z, to_z}
use Rattle.std.proofs.lemmas.Int.{of_z-to_z}
use Rattle.std.proofs.Math.Nat.{mod-lt}
use mir.Syntax.{w32}
use Rattle.set_values.proofs.Wraps.{low_bits}
use Rattle.set_values.proofs.members.wrapped.Goals as goal

pub returns : goal.returns
returns c =
    let low = c.args.number % (2 ^ 32) in
    ap (λ (z : ℤ). to_z w32 (of_z w32 z)) c.cast_signed.ensures ∙ ap (to_z w32) (of_z-to_z w32 low (mod-lt c.args.number (omega arith))) ∙ low_bits c.args.number
