use Rattle.std.proofs.Common.{length}
use Rattle.rag_io.proofs.Unquotes.{GoesOn}
use Rattle.rag_io.proofs.unquoting.unquote.Given as goal

abbrev pub invariant-loop-b : goal.invariant-loop-b
invariant-loop-b l = GoesOn l.text l.bytes.items l.body

abbrev pub decreases-loop-b : goal.decreases-loop-b
decreases-loop-b l = length l.body
