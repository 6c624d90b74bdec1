-- Calls and their arguments, and the forms of several parts.
use Rattle.std.proofs.Common.{◌∙◌, ap, arith, map, refl}
use Rattle.std.proofs.Math.Nat.{le-max_left, le-max_right}
use Rattle.aspect_items.proofs.expression.Expr.TheLaws.{the_size}
use Rattle.std.proofs.lemmas.Result.{IfOk-weaker, on_ok_weaker}
use Rattle.broken_rules.proofs.Noting.{notes_then}
use Rattle.aspect_items.specs.Expressions.{seen_expr, seen_name}
use Rattle.attr_rules.specs.Types.{parameter_kinds}
use Rattle.expr_typing.specs.Calls.{first_place}
use Rattle.attr_scope.specs.Seen.{seen_scope, seen_variable}
use Rattle.attr_bodies.proofs.ArgumentSteps.{all_said, kinds_left, next_kind, one_noted, one_said}
use Rattle.attr_bodies.proofs.Sizes.{arguments_smaller, parts_smaller}
use Rattle.attr_bodies.proofs.TypedForms.{binary_noted, call_noted, call_tells, cast_noted, cast_tells, choice_noted, form_noted, known_type, member_noted, more_noted, more_says, over_noted, pair_noted, quantified_noted, quantified_tells, scope_inside, test_noted, test_tells}
use Rattle.attr_bodies.proofs.bodies.+types.Goals as goal

pub type_arguments-loop-argument-preserved : goal.type_arguments-loop-argument-preserved
type_arguments-loop-argument-preserved t c =
    let s = seen_scope c.args.scope.now in
    let wanted = parameter_kinds c.args.wanted in
    let arguments = c.args.arguments.now in
    let i = c.loop-argument.argument-index in
    let left = c.loop-argument.invariant.left in
    record {
      noted = one_noted s wanted arguments i c.argument-item.is c.loop-argument-test.true (c.first_kind.ensures ∙ next_kind wanted _ i left) c.loop-argument.invariant.noted c.in_ok-body.ensures.noted;
      says = one_said s arguments i c.in_ok-body.body c.loop-argument.list.items c.argument-item.is c.loop-argument-test.true c.in_ok-body.ensures.says c.in_ok-add.ensures c.loop-argument.invariant.says;
      left = kinds_left wanted _ _ i left c.rest-kinds.ensures;
    }

pub type_called-returns-clause-noted : goal.type_called-returns-clause-noted
type_called-returns-clause-noted t c =
    let s = seen_scope c.args.scope.now in
    call_noted s c.args.call.range c.args.receiver (seen_name c.args.call.name.now) (first_place c.args.call) c.args.arguments.now c.requires.count c.deref.ensures.value c.member_on-member.ensures c.wanted_for-wanted.ensures c.check_call.ensures
    c.in_ok-bodies.ensures.noted

pub type_call-returns-clause-says : goal.type_call-returns-clause-says
type_call-returns-clause-says t c =
    call_tells (seen_scope c.args.scope.now) c.args.receiver (seen_name c.args.call.name.now) c.args.arguments.now c.in_ok-body.body c.in_ok-member.arguments c.requires.count refl c.in_ok-member.ensures.member
    c.in_ok-member.ensures.says c.type_of-value_type.ensures c.list_of-list.ensures c.in_ok-body.ensures

pub type_operand-returns-clause-noted : goal.type_operand-returns-clause-noted
type_operand-returns-clause-noted t c =
    let operand = known_type (seen_scope c.args.scope.now) (seen_expr c.args.operand.now) c.in_ok-typed.typed c.in_ok-typed.ensures.says in
    notes_then c.in_ok-typed.ensures.noted (rw operand at c.check_fit.ensures)

pub type_expr-type_member-requires : goal.type_expr-type_member-requires
type_expr-type_member-requires t c =
    let smaller = arguments_smaller c.args.expr.now c.in-Member.receiver c.in-Member.name c.in-Member.arguments c.deref-in-Member-2.result.now c.in-Member.is c.deref-in-Member-2.ensures.value in
    (omega arith, c.requires)

pub type_expr-returns-in_ok-receiver-in-Member-clause-noted : goal.type_expr-returns-in_ok-receiver-in-Member-clause-noted
type_expr-returns-in_ok-receiver-in-Member-clause-noted t c =
    on_ok_weaker c.type_member.result
    (member_noted (seen_scope c.args.scope.now) c.args.stands c.in-Member.arguments c.deref-in-Member.result.now c.deref-in-Member-2.result.now c.in_ok-receiver-in-Member.receiver c.in-Member.is c.deref-in-Member.ensures c.deref-in-Member-2.ensures.value
    c.in_ok-receiver-in-Member.ensures)
    c.type_member.ensures.noted

pub type_expr-returns-in_ok-right-in-Binary-clause-noted : goal.type_expr-returns-in_ok-right-in-Binary-clause-noted
type_expr-returns-in_ok-right-in-Binary-clause-noted t c =
    on_ok_weaker c.combined.result
    (binary_noted (seen_scope c.args.scope.now) c.args.stands c.deref-in-Binary.result.now c.deref-in-Binary-2.result.now c.in_ok-left-in-Binary.left c.in_ok-right-in-Binary.right c.in-Binary.is c.deref-in-Binary.ensures c.deref-in-Binary-2.ensures
    c.in_ok-left-in-Binary.ensures c.in_ok-right-in-Binary.ensures)
    c.combined.ensures.noted

pub type_expr-returns-in_ok-otherwise-in-If-clause-noted : goal.type_expr-returns-in_ok-otherwise-in-If-clause-noted
type_expr-returns-in_ok-otherwise-in-If-clause-noted t c =
    on_ok_weaker c.choice.result
    (choice_noted (seen_scope c.args.scope.now) c.args.stands c.deref-in-If.result.now c.deref-in-If-2.result.now c.deref-in-If-3.result.now c.in_ok-condition-in-If.condition c.in_ok-then-in-If.then c.in_ok-otherwise-in-If.otherwise c.in-If.is
    c.deref-in-If.ensures c.deref-in-If-2.ensures c.deref-in-If-3.ensures c.in_ok-condition-in-If.ensures c.in_ok-then-in-If.ensures c.in_ok-otherwise-in-If.ensures)
    c.choice.ensures.noted

pub type_node-returns-clause-noted : goal.type_node-returns-clause-noted
type_node-returns-clause-noted t c =
    let operand = known_type (seen_scope c.args.scope.now) (seen_expr c.args.operand.now) c.in_ok-typed.typed c.in_ok-typed.ensures.says in
    notes_then c.in_ok-typed.ensures.noted (rw operand at c.check_node.ensures)

pub type_cast-returns-clause-noted : goal.type_cast-returns-clause-noted
type_cast-returns-clause-noted t c = notes_then c.check_class-class.ensures.noted c.in_ok-operand.ensures.noted

pub type_test-returns-clause-noted : goal.type_test-returns-clause-noted
type_test-returns-clause-noted t c = notes_then c.check_class-class.ensures.noted c.in_ok-operand.ensures.noted

pub type_expr-returns-in-Cast-clause-noted : goal.type_expr-returns-in-Cast-clause-noted
type_expr-returns-in-Cast-clause-noted t c =
    on_ok_weaker c.type_cast.result (cast_noted (seen_scope c.args.scope.now) c.args.stands c.deref-in-Cast.result.now c.in-Cast.is c.deref-in-Cast.ensures) c.type_cast.ensures.noted

pub type_expr-returns-in-InstanceOf-clause-noted : goal.type_expr-returns-in-InstanceOf-clause-noted
type_expr-returns-in-InstanceOf-clause-noted t c =
    on_ok_weaker c.type_test.result (test_noted (seen_scope c.args.scope.now) c.args.stands c.deref-in-InstanceOf.result.now c.in-InstanceOf.is c.deref-in-InstanceOf.ensures) c.type_test.ensures.noted

pub type_arguments-returns-clause-says : goal.type_arguments-returns-clause-says
type_arguments-returns-clause-says t c =
    all_said (seen_scope c.args.scope.now) c.args.arguments.now c.loop-argument.argument-index c.loop-argument.list.items c.loop-argument-test.false c.loop-argument.invariant.says

pub type_expr-returns-in-Cast-clause-says : goal.type_expr-returns-in-Cast-clause-says
type_expr-returns-in-Cast-clause-says t c =
    IfOk-weaker c.type_cast.result _ _ (λ said. cast_tells (seen_scope c.args.scope.now) c.deref-in-Cast.result.now said c.in-Cast.is c.deref-in-Cast.ensures) c.type_cast.ensures.says

pub type_expr-returns-in-InstanceOf-clause-says : goal.type_expr-returns-in-InstanceOf-clause-says
type_expr-returns-in-InstanceOf-clause-says t c =
    IfOk-weaker c.type_test.result _ _ (λ said. test_tells (seen_scope c.args.scope.now) c.deref-in-InstanceOf.result.now said c.in-InstanceOf.is c.deref-in-InstanceOf.ensures) c.type_test.ensures.says

pub type_quantified-type_body-requires : goal.type_quantified-type_body-requires
type_quantified-type_body-requires t c =
    let within = le-max_right (the_size c.args.range.now) (the_size c.args.body.now) in
    (omega (arith, within), record { superclasses = c.requires.superclasses })

pub type_quantified-type_range-requires : goal.type_quantified-type_range-requires
type_quantified-type_range-requires t c =
    let within = le-max_left (the_size c.args.range.now) (the_size c.args.body.now) in
    (omega (arith, within), c.requires)

pub type_quantified-returns-clause-noted : goal.type_quantified-returns-clause-noted
type_quantified-returns-clause-noted t c =
    let s = seen_scope c.args.scope.now in
    let name = seen_name c.args.name.now in
    let range = seen_expr c.args.range.now in
    let inner = scope_inside s c.args.form name range c.deref.ensures.value c.element_type-value_type.ensures c.in_ok-elements.ensures.elements c.in_ok-variables.ensures (ap (map seen_variable) c.deref-2.ensures.value) in
    over_noted s c.args.form name range (seen_expr c.args.body.now) _ inner c.in_ok-elements.ensures.noted c.in_ok-each.ensures.noted

pub type_quantified-returns-clause-says : goal.type_quantified-returns-clause-says
type_quantified-returns-clause-says t c =
    let s = seen_scope c.args.scope.now in
    let name = seen_name c.args.name.now in
    let range = seen_expr c.args.range.now in
    let inner = scope_inside s c.args.form name range c.deref.ensures.value c.element_type-value_type.ensures c.in_ok-elements.ensures.elements c.in_ok-variables.ensures (ap (map seen_variable) c.deref-2.ensures.value) in
    quantified_tells s c.args.form name range (seen_expr c.args.body.now) _ c.in_ok-elements.elements c.in_ok-elements.range c.in_ok-body.body c.in_ok-each.each c.typed.result inner c.in_ok-elements.ensures.elements c.in_ok-elements.ensures.says
    c.in_ok-each.ensures.says c.in_ok-body.ensures c.quantified_type.ensures c.typed.ensures

pub type_expr-type_quantified-requires : goal.type_expr-type_quantified-requires
type_expr-type_quantified-requires t c =
    let smaller = parts_smaller c.args.expr.now c.in-Quantified.form c.in-Quantified.field-1 c.in-Quantified.name c.in-Quantified.range c.in-Quantified.body c.deref.result.now c.deref-in-Quantified.result.now c.in-Quantified.is
    c.deref.ensures c.deref-in-Quantified.ensures
    in
    (omega arith, c.requires)

pub type_expr-returns-in-Quantified-clause-noted : goal.type_expr-returns-in-Quantified-clause-noted
type_expr-returns-in-Quantified-clause-noted t c =
    on_ok_weaker c.type_quantified.result
    (quantified_noted (seen_scope c.args.scope.now) c.args.stands c.deref.result.now c.deref-in-Quantified.result.now c.in-Quantified.is c.deref.ensures c.deref-in-Quantified.ensures)
    c.type_quantified.ensures.noted

pub type_body-returns-clause-noted : goal.type_body-returns-clause-noted
type_body-returns-clause-noted t c =
    let body = known_type (seen_scope c.args.scope.now) (seen_expr c.args.body.now) c.in_ok-typed.typed c.in_ok-typed.ensures.says in
    notes_then c.in_ok-typed.ensures.noted (rw body at c.check_over.ensures)

pub type_range-returns-clause-noted : goal.type_range-returns-clause-noted
type_range-returns-clause-noted t c =
    let range = known_type (seen_scope c.args.scope.now) (seen_expr c.args.range.now) c.in_ok-typed.typed c.in_ok-typed.ensures.says in
    notes_then c.in_ok-typed.ensures.noted (rw range at c.check_range.ensures)

pub type_one-returns-clause-noted : goal.type_one-returns-clause-noted
type_one-returns-clause-noted t c =
    form_noted (seen_scope c.args.scope.now) c.args.form (seen_name c.args.name.now) c.args.only.now c.in_ok-only.only c.part.result c.in_ok-only.ensures c.part.ensures c.check_one.ensures

pub type_pair-returns-clause-noted : goal.type_pair-returns-clause-noted
type_pair-returns-clause-noted t c =
    pair_noted (seen_scope c.args.scope.now) c.args.form (seen_name c.args.name.now) c.args.first.now c.args.second.now c.in_ok-first.first c.in_ok-second.second c.part.result c.part-2.result c.in_ok-first.ensures c.in_ok-second.ensures
    c.part.ensures c.part-2.ensures c.check_pair.ensures

pub type_form-returns-in_ok-type_arguments-in-len3-up-clause-noted : goal.type_form-returns-in_ok-type_arguments-in-len3-up-clause-noted
type_form-returns-in_ok-type_arguments-in-len3-up-clause-noted t c =
    more_noted (seen_scope c.args.scope.now) c.args.form (seen_name c.args.name.now) c.args.arguments.now (omega (arith, c.in-len3-up.len_at_least)) (ap parameter_kinds c.no_params.ensures) c.in_ok-type_arguments-in-len3-up.ensures.noted
    c.form_alone-in-len3-up.ensures.noted

pub type_form-returns-in_ok-type_arguments-in-len3-up-clause-says : goal.type_form-returns-in_ok-type_arguments-in-len3-up-clause-says
type_form-returns-in_ok-type_arguments-in-len3-up-clause-says t c =
    more_says (seen_scope c.args.scope.now) c.args.form c.args.arguments.now c.form_alone-in-len3-up.result (omega (arith, c.in-len3-up.len_at_least)) c.form_alone-in-len3-up.ensures.says
