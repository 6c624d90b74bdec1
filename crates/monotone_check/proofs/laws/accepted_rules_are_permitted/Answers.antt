use Rattle.monotone_check.proofs.PermittedEquations.{accepted}
use Rattle.monotone_check.proofs.laws.accepted_rules_are_permitted.Goals as goal

pub returns : goal.returns
returns c = accepted
