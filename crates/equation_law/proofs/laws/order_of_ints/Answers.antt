use Rattle.equation_law.proofs.Written.{ints}
use Rattle.equation_law.proofs.laws.order_of_ints.Goals as goal

pub returns : goal.returns
returns c = ints
