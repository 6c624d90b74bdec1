use Rattle.solutions.specs.Orders.{IsAtMost, Fits}
use Rattle.solutions.proofs.Assigned.{demands_assigned}
use Rattle.solutions.proofs.laws.assigned_demands.Goals as goal

pub returns : goal.returns
returns g c = λ G o r T U low i circular. demands_assigned G (IsAtMost o) (Fits o) r T U low i circular
