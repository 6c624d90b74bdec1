use Rattle.typing_rules.proofs.AcceptedExactly.{accepted_exactly}
use Rattle.typing_rules.proofs.laws.accepted_exactly.Goals as goal

pub returns : goal.returns
returns c = accepted_exactly
