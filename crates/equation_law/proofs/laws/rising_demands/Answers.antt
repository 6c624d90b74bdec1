use Rattle.solutions.specs.Rounds.{Graph}
use Rattle.equation_law.specs.Equations.{equations_of}
use Rattle.equation_law.proofs.Solution.{expression_grows}
use Rattle.equation_law.proofs.laws.rising_demands.Goals as goal

pub returns : goal.returns
unfolding equations_of
returns c = λ p e q r A B. expression_grows p e q r (Graph A) (Graph B)
