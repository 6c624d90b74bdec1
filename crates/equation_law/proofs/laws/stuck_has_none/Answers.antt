use Rattle.equation_law.proofs.Solution.{stuck}
use Rattle.equation_law.proofs.laws.stuck_has_none.Goals as goal

pub returns : goal.returns
returns c = stuck
