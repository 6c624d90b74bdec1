use Rattle.equation_law.proofs.Demanded.{well_typed_values}
use Rattle.equation_law.proofs.laws.well_typed_values.Goals as goal

pub returns : goal.returns
returns c = λ p good. well_typed_values p good
