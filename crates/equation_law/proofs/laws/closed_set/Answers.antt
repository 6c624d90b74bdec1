use Rattle.equation_law.proofs.Solution.{closed}
use Rattle.equation_law.proofs.laws.closed_set.Goals as goal

pub returns : goal.returns
returns c = closed
