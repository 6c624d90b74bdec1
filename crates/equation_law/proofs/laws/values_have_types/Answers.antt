use Rattle.equation_law.proofs.QueryValues.{value_typed}
use Rattle.equation_law.proofs.laws.values_have_types.Goals as goal

pub returns : goal.returns
returns c = λ p good i there v has. value_typed p good i there v has
