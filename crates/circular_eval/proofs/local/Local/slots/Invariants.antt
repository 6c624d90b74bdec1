-- The cells of the first members.
use Rattle.circular_eval.proofs.Slots.{AreFirstSlots}
use Rattle.circular_eval.proofs.local.Local.slots.Given as goal

abbrev pub invariant-loop-number : goal.invariant-loop-number
invariant-loop-number l = AreFirstSlots l.self.members.entries l.number l.slots.items
