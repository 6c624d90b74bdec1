-- Of those that were found so far, the ones that aren't sealed.
use Rattle.circular_eval.proofs.Sealing.{AreUnsealed}
use Rattle.circular_eval.proofs.local.Local.closed.Given as goal

abbrev pub invariant-loop-number : goal.invariant-loop-number
invariant-loop-number l = AreUnsealed l.self.members.entries l.number-items l.number-index l.closed.items
