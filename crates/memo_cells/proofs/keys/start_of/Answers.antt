use Rattle.std.proofs.Common.{rules}
use Rattle.memo_cells.specs.Keys.{start}
use Rattle.memo_cells.proofs.keys.start_of.Goals as goal

pub returns-clause-start : goal.returns-clause-start
unfolding start
returns-clause-start c = search rules
