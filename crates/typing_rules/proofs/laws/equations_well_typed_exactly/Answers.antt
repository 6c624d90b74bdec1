use Rattle.typing_rules.proofs.EquationsTyped.{equations_exactly}
use Rattle.typing_rules.proofs.laws.equations_well_typed_exactly.Goals as goal

pub returns : goal.returns
returns c = equations_exactly
