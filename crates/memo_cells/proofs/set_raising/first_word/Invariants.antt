-- The codes so far lie in the word of the first one.
use Rattle.std.proofs.Common.{◌-◌, length}
use Rattle.memo_cells.proofs.SetFirsts.{Gathers}
use Rattle.memo_cells.proofs.set_raising.first_word.Given as goal

abbrev pub invariant-loop-count : goal.invariant-loop-count
invariant-loop-count l = Gathers l.codes l.word l.count l.bits

abbrev pub decreases-loop-count : goal.decreases-loop-count
decreases-loop-count l = length l.codes - l.count
