use Rattle.typing_rules.proofs.WellTyped.{nothing}
use Rattle.typing_rules.proofs.laws.typed_expressions_break_nothing.Goals as goal

pub returns : goal.returns
returns c = nothing
