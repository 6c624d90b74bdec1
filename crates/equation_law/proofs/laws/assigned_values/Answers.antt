use Rattle.equation_law.proofs.Solution.{values_under}
use Rattle.equation_law.proofs.laws.assigned_values.Goals as goal

pub returns : goal.returns
returns c = λ p T U low i circular. values_under p T U low i circular
