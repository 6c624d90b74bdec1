use Rattle.typing_rules.proofs.WellTyped.{one_type, type_known}
use Rattle.typing_rules.proofs.laws.expressions_have_one_type.Goals as goal

pub returns : goal.returns
returns c = record { known = type_known; one = one_type }
