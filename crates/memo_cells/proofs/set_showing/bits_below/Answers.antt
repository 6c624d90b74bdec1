use Rattle.memo_cells.proofs.SetAdding.{all_below, some_below}
use Rattle.memo_cells.proofs.set_showing.bits_below.Goals as goal

pub returns-then-count-lt64 : goal.returns-then-count-lt64
returns-then-count-lt64 c = some_below c.args.word c.args.code c.saturating_sub-count.result c.saturating_sub-count.ensures c.if-count-lt64.true

pub returns-else-count-lt64 : goal.returns-else-count-lt64
returns-else-count-lt64 c = all_below c.args.word c.args.code c.saturating_sub-count.result c.saturating_sub-count.ensures c.if-count-lt64.false
