use Rattle.equation_law.proofs.Solution.{loopless}
use Rattle.equation_law.proofs.laws.loop_has_no_value.Goals as goal

pub returns : goal.returns
returns c = loopless
