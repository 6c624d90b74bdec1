use Rattle.equation_law.proofs.Solution.{below}
use Rattle.equation_law.proofs.laws.lower_below.Goals as goal

pub returns : goal.returns
returns c = below
