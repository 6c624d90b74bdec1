use Rattle.solutions.specs.Orders.{IsAtMost, Fits}
use Rattle.solutions.proofs.Assigned.{values_assigned}
use Rattle.solutions.proofs.laws.assigned_values.Goals as goal

pub returns : goal.returns
returns g c = λ G o r T U low i circular. values_assigned G (IsAtMost o) (Fits o) r T U low i circular
