-- The member is noted as a reader of those so far.
use Rattle.worklists.proofs.Noting.{AreNoted}
use Rattle.worklists.proofs.worklist.Worklist.note_reads.Given as goal

abbrev pub invariant-loop-number : goal.invariant-loop-number
invariant-loop-number l = AreNoted l.initial.self l.reader l.read l.number-index l.self
