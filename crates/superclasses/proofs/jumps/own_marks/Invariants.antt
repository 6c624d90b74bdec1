use Rattle.std.proofs.Common.{length, ◌-◌}
use Rattle.superclasses.proofs.Leaps.{GoUp}
use Rattle.superclasses.proofs.jumps.own_marks.Given as goal

abbrev pub invariant-loop-steps : goal.invariant-loop-steps
invariant-loop-steps l = GoUp l.superclasses l.steps l.jumps.items

abbrev pub decreases-loop-steps : goal.decreases-loop-steps
decreases-loop-steps l = length l.superclasses - l.steps
