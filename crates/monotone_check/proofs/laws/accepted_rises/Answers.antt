use Rattle.monotone_check.proofs.PermittedRises.{equations_rise}
use Rattle.monotone_check.proofs.laws.accepted_rises.Goals as goal

pub returns : goal.returns
returns c = equations_rise
