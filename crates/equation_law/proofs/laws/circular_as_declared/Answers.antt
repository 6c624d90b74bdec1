use Rattle.equation_law.proofs.Declared.{as_declared}
use Rattle.equation_law.proofs.laws.circular_as_declared.Goals as goal

pub returns : goal.returns
returns c = λ p good i h. as_declared p good i h
