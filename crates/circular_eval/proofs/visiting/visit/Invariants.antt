-- Nothing changed in the set, or members were added; what is saved is so.
use Rattle.circular_eval.specs.Left.{left}
use Rattle.circular_eval.specs.Looking.{AreSavedHere}
use Rattle.circular_eval.proofs.Passing.{IsVisited}
use Rattle.circular_eval.proofs.visiting.visit.Given as goal

abbrev pub invariant-steps : goal.invariant-steps
invariant-steps g l = IsVisited (g.W.Words.held l.initial.work) (g.W.Words.held l.work) l.initial.local l.local l.grown × AreSavedHere l.system (g.W.Words.held l.work) l.local l.saved

abbrev pub decreases-steps : goal.decreases-steps
decreases-steps g l = left l.local.members.entries
