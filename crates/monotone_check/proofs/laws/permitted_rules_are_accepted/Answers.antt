use Rattle.monotone_check.proofs.PermittedEquations.{permitted}
use Rattle.monotone_check.proofs.laws.permitted_rules_are_accepted.Goals as goal

pub returns : goal.returns
returns c = permitted
