use Rattle.equation_law.proofs.Deciding.{rounds_end}
use Rattle.equation_law.proofs.laws.rounds_end.Goals as goal

pub returns : goal.returns
returns c = λ p good list are. rounds_end p good list are
