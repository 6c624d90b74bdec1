use Rattle.attr_types.proofs.MadeWell.{equations_made}
use Rattle.attr_types.proofs.laws.equations_are_made_well.Goals as goal

pub returns : goal.returns
returns c = equations_made
