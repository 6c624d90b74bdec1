use Rattle.equation_law.proofs.Written.{truths}
use Rattle.equation_law.proofs.laws.order_of_truths.Goals as goal

pub returns : goal.returns
returns c = truths
