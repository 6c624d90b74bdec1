use Rattle.monotone_check.proofs.Deciding.{one_decides}
use Rattle.monotone_check.proofs.laws.one_position_decides.Goals as goal

pub returns : goal.returns
returns c = λ p q m n ps d e. one_decides d e
