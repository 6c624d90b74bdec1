use Rattle.typing_rules.proofs.CreatedTyped.{created_exactly}
use Rattle.typing_rules.proofs.laws.created_exactly.Goals as goal

pub returns : goal.returns
returns c = created_exactly
