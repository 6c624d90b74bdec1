use Rattle.monotone_check.proofs.PermittedRises.{permitted_rises}
use Rattle.monotone_check.proofs.laws.permitted_rises.Goals as goal

pub returns : goal.returns
returns c = permitted_rises
