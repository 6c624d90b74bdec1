use Rattle.std.proofs.Common.{cond, ap, sym, ◌∙◌}
use Rattle.equation_law.specs.Codes.{value_by}
use Rattle.equation_law.specs.Values.{size_of}
use Rattle.plain_rounds.proofs.rooms.height.Goals as goal

pub returns-then-truth : goal.returns-then-truth
returns-then-truth c = λ system good n named. sym (ap (λ b. cond b 1 (size_of (value_by n c.args.value.now))) (sym (c.truth.ensures n) ∙ c.if-truth.true))

pub returns-else-truth : goal.returns-else-truth
returns-else-truth c = λ system good n named. c.count.ensures system good n named ∙ sym (ap (λ b. cond b 1 (size_of (value_by n c.args.value.now))) (sym (c.truth.ensures n) ∙ c.if-truth.false))
