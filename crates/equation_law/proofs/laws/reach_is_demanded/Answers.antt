use Rattle.equation_law.proofs.Solution.{reached}
use Rattle.equation_law.proofs.laws.reach_is_demanded.Goals as goal

pub returns : goal.returns
returns c = reached
