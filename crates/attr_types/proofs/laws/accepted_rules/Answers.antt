use Rattle.attr_types.proofs.Accepted.{accepted}
use Rattle.attr_types.proofs.laws.accepted_rules.Goals as goal

pub returns : goal.returns
returns c = accepted
