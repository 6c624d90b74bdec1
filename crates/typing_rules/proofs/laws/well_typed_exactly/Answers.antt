use Rattle.typing_rules.proofs.WellTyped.{exactly}
use Rattle.typing_rules.proofs.laws.well_typed_exactly.Goals as goal

pub returns : goal.returns
returns c = exactly
