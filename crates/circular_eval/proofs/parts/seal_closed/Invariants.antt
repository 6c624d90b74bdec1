-- The set goes on, and those so far are sealed.
use Rattle.std.proofs.Common.{◌≡◌, ◌<◌, ℕ, slice_index_or}
use Rattle.circular_eval.specs.Parts.{IsSealedAt, SameMembers}
use Rattle.circular_eval.specs.Visiting.{GoesOnWith}
use Rattle.circular_eval.proofs.parts.seal_closed.Given as goal

abbrev pub invariant-loop-number : goal.invariant-loop-number
invariant-loop-number g l = record {
  goes : GoesOnWith (g.W.Words.held l.initial.work) (g.W.Words.held l.work) l.initial.local l.local;
  members : SameMembers l.initial.local.members.entries l.local.members.entries;
  sealed : (i k : ℕ) → i < l.number-index → slice_index_or l.closed i k ≡ k → IsSealedAt l.local.members.entries k;
}
