use Rattle.equation_law.proofs.Solution.{both_lower}
use Rattle.equation_law.proofs.laws.lower_joined.Goals as goal

pub returns : goal.returns
returns c = both_lower
