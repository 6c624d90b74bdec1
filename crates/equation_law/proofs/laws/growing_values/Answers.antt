use Rattle.solutions.specs.Rounds.{Graph}
use Rattle.equation_law.proofs.Solution.{values_grow}
use Rattle.equation_law.proofs.laws.growing_values.Goals as goal

pub returns : goal.returns
returns c = λ p i c A B. values_grow p i c (Graph A) (Graph B)
