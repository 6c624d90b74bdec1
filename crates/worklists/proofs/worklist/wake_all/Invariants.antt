-- Those that were due are, and so are the readers so far.
use Rattle.std.proofs.Common.{◌≡◌, ◌<◌, ℕ, slice_index_or}
use Rattle.worklists.specs.Waiting.{IsDue, StillDue}
use Rattle.worklists.proofs.worklist.wake_all.Given as goal

abbrev pub invariant-loop-number : goal.invariant-loop-number
invariant-loop-number l = StillDue l.initial.due l.due × ((i k : ℕ) → i < l.number-index → slice_index_or l.number-items i k ≡ k → IsDue l.due k)
