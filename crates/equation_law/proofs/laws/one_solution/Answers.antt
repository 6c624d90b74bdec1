use Rattle.equation_law.proofs.Solution.{one}
use Rattle.equation_law.proofs.laws.one_solution.Goals as goal

pub returns : goal.returns
returns c = one
