use Rattle.attr_types.proofs.MadeWell.{contributions_made}
use Rattle.attr_types.proofs.laws.contributions_are_made_well.Goals as goal

pub returns : goal.returns
returns c = contributions_made
