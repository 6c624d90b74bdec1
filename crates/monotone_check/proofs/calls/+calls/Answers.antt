use Rattle.std.specs.Prelude.{Some}
use Rattle.broken_rules.specs.declared.rule.Rule.TheVariants.{M1, M2}
use Rattle.broken_rules.proofs.Noting.{notes_then}
use Rattle.attr_equations.specs.Kept.{rules_in}
use Rattle.monotone_check.specs.Equations.{is_circular}
use Rattle.monotone_check.proofs.Noted.{said, boxed, both_boxed, chosen, said_arguments, boxed_arguments, said_tokens, boxed_tokens}
use Rattle.monotone_check.proofs.calls.+calls.Goals as goal

pub check_arguments-returns-then-in_first-clause-noted : goal.check_arguments-returns-then-in_first-clause-noted
check_arguments-returns-then-in_first-clause-noted t c =
    let circular = is_circular (rules_in c.args.rules.now) in
    said_arguments circular c.in-More.is
    (notes_then (boxed circular (Some M2) c.deref.ensures c.check_calls-in_first.ensures.noted) (boxed_arguments circular c.deref-in-More.ensures c.check_arguments-in_rest.ensures.noted))

pub check_two-returns-then-in_first-clause-noted : goal.check_two-returns-then-in_first-clause-noted
check_two-returns-then-in_first-clause-noted t c =
    notes_then c.check_calls-in_first.ensures.noted c.check_calls-in_second.ensures.noted

pub check_calls-returns-then-in_receiver-clause-noted : goal.check_calls-returns-then-in_receiver-clause-noted
check_calls-returns-then-in_receiver-clause-noted t c =
    let circular = is_circular (rules_in c.args.rules.now) in
    said circular c.args.refused c.in-Call.is
    (notes_then c.note_call-circular.ensures.noted
    (notes_then (boxed circular (Some M2) c.deref-in-Call.ensures c.check_calls-in_receiver.ensures.noted) c.check_arguments-in_arguments.ensures.noted))

pub check_calls-returns-then-in_condition-clause-noted : goal.check_calls-returns-then-in_condition-clause-noted
check_calls-returns-then-in_condition-clause-noted t c =
    let circular = is_circular (rules_in c.args.rules.now) in
    said circular c.args.refused c.in-If.is
    (notes_then (boxed circular c.args.refused c.deref-in-If.ensures c.check_calls-in_condition.ensures.noted)
    (notes_then (chosen circular c.in-If.place c.deref-in-If.ensures c.check_calls-in_condition.ensures.calls c.note_choice.ensures)
    (both_boxed circular c.args.refused c.args.refused c.deref-in-If-2.ensures c.deref-in-If-3.ensures c.check_two-in_parts.ensures.noted)))

pub check_arguments-returns-else-in_first-clause-noted : goal.check_arguments-returns-else-in_first-clause-noted
check_arguments-returns-else-in_first-clause-noted t c =
    let circular = is_circular (rules_in c.args.rules.now) in
    said_arguments circular c.in-More.is
    (notes_then (boxed circular (Some M2) c.deref.ensures c.check_calls-in_first.ensures.noted) (boxed_arguments circular c.deref-in-More.ensures c.check_arguments-in_rest.ensures.noted))

pub check_two-returns-else-in_first-clause-noted : goal.check_two-returns-else-in_first-clause-noted
check_two-returns-else-in_first-clause-noted t c =
    notes_then c.check_calls-in_first.ensures.noted c.check_calls-in_second.ensures.noted

pub check_calls-returns-else-in_receiver-clause-noted : goal.check_calls-returns-else-in_receiver-clause-noted
check_calls-returns-else-in_receiver-clause-noted t c =
    let circular = is_circular (rules_in c.args.rules.now) in
    said circular c.args.refused c.in-Call.is
    (notes_then c.note_call-circular.ensures.noted
    (notes_then (boxed circular (Some M2) c.deref-in-Call.ensures c.check_calls-in_receiver.ensures.noted) c.check_arguments-in_arguments.ensures.noted))

pub check_calls-returns-else-in_condition-clause-noted : goal.check_calls-returns-else-in_condition-clause-noted
check_calls-returns-else-in_condition-clause-noted t c =
    let circular = is_circular (rules_in c.args.rules.now) in
    said circular c.args.refused c.in-If.is
    (notes_then (boxed circular c.args.refused c.deref-in-If.ensures c.check_calls-in_condition.ensures.noted)
    (notes_then (chosen circular c.in-If.place c.deref-in-If.ensures c.check_calls-in_condition.ensures.calls c.note_choice.ensures)
    (both_boxed circular c.args.refused c.args.refused c.deref-in-If-2.ensures c.deref-in-If-3.ensures c.check_two-in_parts.ensures.noted)))

pub check_tokens-returns-then-in_token-clause-noted : goal.check_tokens-returns-then-in_token-clause-noted
check_tokens-returns-then-in_token-clause-noted t c =
    let circular = is_circular (rules_in c.args.rules.now) in
    said_tokens circular c.in-Token.is
    (notes_then (boxed circular (Some M1) c.deref.ensures c.check_calls-in_token.ensures.noted) (boxed_tokens circular c.deref-in-Token.ensures c.check_tokens-in_rest.ensures.noted))

pub check_tokens-returns-then-in_child-clause-noted : goal.check_tokens-returns-then-in_child-clause-noted
check_tokens-returns-then-in_child-clause-noted t c =
    let circular = is_circular (rules_in c.args.rules.now) in
    said_tokens circular c.in-Child.is
    (notes_then (boxed_tokens circular c.deref-in-Child.ensures c.check_tokens-in_child.ensures.noted) (boxed_tokens circular c.deref-in-Child-2.ensures c.check_tokens-in_rest-in-Child.ensures.noted))

pub check_tokens-returns-else-in_token-clause-noted : goal.check_tokens-returns-else-in_token-clause-noted
check_tokens-returns-else-in_token-clause-noted t c =
    let circular = is_circular (rules_in c.args.rules.now) in
    said_tokens circular c.in-Token.is
    (notes_then (boxed circular (Some M1) c.deref.ensures c.check_calls-in_token.ensures.noted) (boxed_tokens circular c.deref-in-Token.ensures c.check_tokens-in_rest.ensures.noted))

pub check_tokens-returns-else-in_child-clause-noted : goal.check_tokens-returns-else-in_child-clause-noted
check_tokens-returns-else-in_child-clause-noted t c =
    let circular = is_circular (rules_in c.args.rules.now) in
    said_tokens circular c.in-Child.is
    (notes_then (boxed_tokens circular c.deref-in-Child.ensures c.check_tokens-in_child.ensures.noted) (boxed_tokens circular c.deref-in-Child-2.ensures c.check_tokens-in_rest-in-Child.ensures.noted))
