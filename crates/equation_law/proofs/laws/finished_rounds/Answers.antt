use Rattle.equation_law.proofs.Solution.{finished}
use Rattle.equation_law.proofs.laws.finished_rounds.Goals as goal

pub returns : goal.returns
returns c = finished
