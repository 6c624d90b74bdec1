-- It goes on, and each pass leaves less.
use Rattle.circular_eval.specs.Left.{left}
use Rattle.circular_eval.specs.Visiting.{GoesOnWith}
use Rattle.circular_eval.proofs.advancing.repeat.Given as goal

abbrev pub invariant-passes : goal.invariant-passes
invariant-passes g l = GoesOnWith (g.W.Words.held l.initial.work) (g.W.Words.held l.work) l.initial.local l.local

abbrev pub decreases-passes : goal.decreases-passes
decreases-passes g l = left l.local.members.entries
