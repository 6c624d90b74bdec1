use Rattle.equation_law.proofs.Solution.{demands_under}
use Rattle.equation_law.proofs.laws.assigned_demands.Goals as goal

pub returns : goal.returns
returns c = λ p T U low i circular. demands_under p T U low i circular
