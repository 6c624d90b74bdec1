use Rattle.equation_law.proofs.Written.{texts}
use Rattle.equation_law.proofs.laws.order_of_texts.Goals as goal

pub returns : goal.returns
returns c = texts
