use Rattle.std.proofs.Common.{rules}
use Rattle.memo_cells.proofs.SetFirsts.{gathers_next}
use Rattle.memo_cells.proofs.set_raising.first_word.Goals as goal

pub loop-count-preserved : goal.loop-count-preserved
loop-count-preserved c = gathers_next c.args.codes.now _ c.loop-count.count c.loop-count.bits c.loop-count.invariant (search rules) (search rules)
