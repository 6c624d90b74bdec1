use Rattle.std.proofs.Common.{◌-◌, ◌≤◌, length}
use Rattle.expr_eval.specs.Saved.{Loses}
use Rattle.expr_eval.proofs.saved.Saved.leave.Given as goal

abbrev pub invariant-goings : goal.invariant-goings
invariant-goings l = Loses l.initial.self l.self × (l.k ≤ length l.self.goings.items)

abbrev pub decreases-goings : goal.decreases-goings
decreases-goings l = length l.self.goings.items - l.k
