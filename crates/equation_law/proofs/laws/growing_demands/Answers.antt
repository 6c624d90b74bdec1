use Rattle.solutions.specs.Rounds.{Graph}
use Rattle.equation_law.proofs.Solution.{demands_grow}
use Rattle.equation_law.proofs.laws.growing_demands.Goals as goal

pub returns : goal.returns
returns c = λ p i c A B. demands_grow p i c (Graph A) (Graph B)
