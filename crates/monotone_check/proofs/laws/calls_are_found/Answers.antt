use Rattle.monotone_check.proofs.Found.{found}
use Rattle.monotone_check.proofs.laws.calls_are_found.Goals as goal

pub returns : goal.returns
returns c = found
