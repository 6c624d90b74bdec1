-- The words of the codes before those that are left are raised.
use Rattle.std.proofs.Common.{length}
use Rattle.memo_cells.proofs.SetWords.{RaisesFirst}
use Rattle.memo_cells.proofs.set_raising.raise_codes.Given as goal

abbrev pub invariant-loop-code : goal.invariant-loop-code
invariant-loop-code g l = RaisesFirst (g.W.Words.held l.fn.work) (g.W.Words.held l.work) l.slot.0 l.codes l.rest

abbrev pub decreases-loop-code : goal.decreases-loop-code
decreases-loop-code g l = length l.rest
