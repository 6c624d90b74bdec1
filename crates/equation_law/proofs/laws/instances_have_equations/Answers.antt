use Rattle.equation_law.proofs.Demanded.{has_equation}
use Rattle.equation_law.proofs.laws.instances_have_equations.Goals as goal

pub returns : goal.returns
returns c = λ p good i h. has_equation p good i h
