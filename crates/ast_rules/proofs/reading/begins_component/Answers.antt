use Rattle.std.proofs.Common.{◌∙◌}
use Rattle.ast_rules.proofs.Components.{begins_by_sentence, begins_by_fault, end_behind, some_behind}
use Rattle.ast_rules.proofs.reading.begins_component.Goals as goal

pub parse_classes-requires-clause-some : goal.parse_classes-requires-clause-some
parse_classes-requires-clause-some c = some_behind c.args.classes.now c.deref.result.now (c.deref.ensures.value ∙ c.in_ok-behind.ensures)

pub parse_classes-requires-clause-ends : goal.parse_classes-requires-clause-ends
parse_classes-requires-clause-ends c = end_behind c.args.classes.now c.deref.result.now (c.deref.ensures.value ∙ c.in_ok-behind.ensures)

pub returns-in-Ok : goal.returns-in-Ok
returns-in-Ok c = (λ yes. begins_by_sentence c.args.classes.now c.deref.result.now (c.deref.ensures.value ∙ c.in_ok-behind.ensures) c.in-Ok.ensures, λ b. cc)

pub returns-in-Err-At : goal.returns-in-Err-At
returns-in-Err-At c = begins_by_fault c.args.classes.now c.deref.result.now (c.deref.ensures.value ∙ c.in_ok-behind.ensures) c.in-Err-At.fault (rw c.in-Err-At.field-0-is at c.in-Err-At.ensures).0
