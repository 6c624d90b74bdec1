use Rattle.typing_rules.proofs.ContributionsTyped.{contributions_exactly}
use Rattle.typing_rules.proofs.laws.contributions_well_typed_exactly.Goals as goal

pub returns : goal.returns
returns c = contributions_exactly
