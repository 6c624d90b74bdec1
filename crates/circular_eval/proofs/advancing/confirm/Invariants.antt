-- The members up to this one are confirmed.
use Rattle.std.proofs.Common.{◌+◌, ◌-◌, length}
use Rattle.worklists.specs.Waiting.{due_count}
use Rattle.circular_eval.proofs.Passing.{IsPassed}
use Rattle.circular_eval.proofs.advancing.confirm.Given as goal

abbrev pub invariant-pass : goal.invariant-pass
invariant-pass g l = IsPassed (g.W.Words.held l.initial.work) (g.W.Words.held l.work) l.initial.local l.local l.confirmed

abbrev pub decreases-pass : goal.decreases-pass
decreases-pass g l = (length l.local.members.entries - l.confirmed) + due_count l.local.worklist.due
