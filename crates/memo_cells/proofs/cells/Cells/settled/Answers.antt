use Rattle.std.proofs.Common.{rules}
use Rattle.memo_cells.proofs.Causes.{found_one, log_one}
use Rattle.memo_cells.proofs.cells.Cells.settled.Goals as goal

pub returns-then-word-clause-cause : goal.returns-then-word-clause-cause
returns-then-word-clause-cause c = record { word = c.look_value-word.result; unset = search rules; found = found_one c.look_value-word.ensures.seen.log }

pub returns-then-word-clause-log : goal.returns-then-word-clause-log
returns-then-word-clause-log c = log_one c.look_value-word.ensures.seen.log

pub returns-clause-log : goal.returns-clause-log
returns-clause-log c = log_one c.look_value-word.ensures.seen.log
