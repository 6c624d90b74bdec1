use Rattle.std.proofs.Common.{◌∙◌, ◌&&◌, ◌-◌, sym, ap}
use Rattle.code_sets.specs.Merges.{keeps}
use Rattle.code_sets.specs.Words.{has_bit}
use Rattle.code_sets.proofs.Words.{has_each, has_either, has_others}
use Rattle.code_sets.proofs.merges.Operation.bits.Goals as goal

pub returns-in-Union : goal.returns-in-Union
returns-in-Union c q = has_either c.args.ours c.args.theirs q ∙ sym (ap (λ o. keeps o (has_bit c.args.ours q) (has_bit c.args.theirs q)) c.in-Union.is)

pub returns-in-Inter : goal.returns-in-Inter
returns-in-Inter c q = has_each c.args.ours c.args.theirs q ∙ sym (ap (λ o. keeps o (has_bit c.args.ours q) (has_bit c.args.theirs q)) c.in-Inter.is)

pub returns-in-Minus : goal.returns-in-Minus
returns-in-Minus c q =
    has_each c.args.ours (18446744073709551615 - c.args.theirs) q
    ∙ ap (λ b. has_bit c.args.ours q && b) (has_others c.args.theirs q c.ranges.theirs.fits)
    ∙ sym (ap (λ o. keeps o (has_bit c.args.ours q) (has_bit c.args.theirs q)) c.in-Minus.is)
