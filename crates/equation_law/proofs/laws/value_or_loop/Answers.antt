use Rattle.equation_law.proofs.Deciding.{value_or_loop}
use Rattle.equation_law.proofs.laws.value_or_loop.Goals as goal

pub returns : goal.returns
returns c = λ p good list i within. value_or_loop p good list within.instances within.led i within.among
