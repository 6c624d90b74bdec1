-- The codes of the words so far are read.
use Rattle.memo_cells.proofs.SetReading.{ReadsBelow}
use Rattle.memo_cells.proofs.set_showing.codes_shown.Given as goal

abbrev pub invariant-loop-word : goal.invariant-loop-word
invariant-loop-word g l = ReadsBelow (g.W.Words.held l.fn.work) (g.W.Words.held l.work) l.slot.0 l.from l.to l.word l.codes
