use Rattle.typing_rules.proofs.TypesFit.{common_least, common_none}
use Rattle.typing_rules.proofs.laws.common_types_are_least.Goals as goal

pub returns : goal.returns
returns c = record { least = common_least; none = λ g t u k h e both. common_none g t u k h e both.0 both.1 }
