use Rattle.equation_law.proofs.Solution.{ended}
use Rattle.equation_law.proofs.laws.ended_has_value.Goals as goal

pub returns : goal.returns
returns c = ended
