use Rattle.monotone_check.proofs.PermittedEquations.{of_expression}
use Rattle.monotone_check.proofs.laws.unbroken_is_permitted.Goals as goal

pub returns : goal.returns
returns c = of_expression
