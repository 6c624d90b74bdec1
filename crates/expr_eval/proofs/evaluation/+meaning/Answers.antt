-- What the forms' parts that were evaluated give.
use Rattle.std.proofs.Common.{◌≤◌, ◌<◌, List, [], length, slice_set, refl, arith, ap, rules, subst, sym, ◌∙◌}
use Rattle.attr_rules.specs.Expression.{expression_of}
use Rattle.equation_law.specs.Codes.{Naming, source_names, value_by}
use Rattle.equation_law.specs.Systems.{program_of}
use Rattle.expr_eval.proofs.Forms.{advances_read, advances_self, advances_then, and_ends, and_goes, and_stops, boxed, call_boxed, call_goes, call_stops, call_stops_at, came_as, choice_boxed, context_later, elements_later, if_otherwise, if_stops, if_then, leaf_reads, node_goes, node_stops, none_said, one_makes, or_ends, or_goes, or_stops, out_of_memory, read_as, said, said_is, single_later, token_goes, token_stops, two_make, two_stop}
use Rattle.tree_arena.specs.Nodes.{most_nodes}
use Rattle.std.specs.Prelude.{Vec}
use Rattle.std.specs.declared.alloc.Global.{Global}
use Rattle.equation_law.specs.declared.coding.Single.{Single}
use Rattle.expr_eval.specs.Elements.{Rooms}
use Rattle.expr_eval.specs.Evaluating.{place_in}
use Rattle.expr_eval.specs.Reads.{GoesOver, ReadsStand}
use Rattle.expr_eval.specs.Saved.{body_of, making_of}
use Rattle.attr_rules.specs.Types.{parameter_kinds}
use Rattle.expr_eval.proofs.Given.{boxed_arguments, first_halts, for_parameters, none_given, one_given, one_more, rest_halts, room_behind, said_arguments, thrown_arguments}
use Rattle.expr_eval.proofs.Growing.{ranged_more, stands_more}
use Rattle.expr_eval.proofs.Knowing.{leaf_known}
use Rattle.expr_eval.proofs.Over.{done_further}
use Rattle.expr_eval.proofs.Resuming.{element_there, going_is, halted, handed, loses, over_by, over_ends, over_halts, puts, range_stops, read_at_element, stood_first, stops_at, taken, taken_in}
use Rattle.expr_eval.proofs.evaluation.+meaning.Goals as goal

any_names : Naming
any_names = source_names (λ k. [])

pub given-returns-in_err-value-in-More : goal.given-returns-in_err-value-in-More
given-returns-in_err-value-in-More g t c = thrown_arguments c.from_residual.ensures (said_arguments c.in-More.is (first_halts (boxed c.deref.ensures (came_as c.in_err-value-in-More.was c.meaning.ensures))))

pub given-returns-in_err-behind-in-More : goal.given-returns-in_err-behind-in-More
given-returns-in_err-behind-in-More g t c =
    thrown_arguments c.from_residual-in_err-behind-in-More.ensures
    (said_arguments c.in-More.is (rest_halts (boxed c.deref.ensures (came_as c.in_ok-value-in-More.was c.meaning.ensures)) (boxed_arguments c.deref-in-More.ensures c.in_err-behind-in-More.ensures)))

pub given-behind-requires-clause-few : goal.given-behind-requires-clause-few
given-behind-requires-clause-few g t c =
    room_behind (program_of c.args.context.now.system.now) c.args.parameters c.in_ok-behind-in-More.behind c.in-Some.ensures c.rest.ensures c.in_ok-behind-in-More.ensures.is.row c.in_ok-behind-in-More.ensures.is.codes

pub given-returns-in-End : goal.given-returns-in-End
given-returns-in-End g t c = said_arguments c.in-End.is (none_given c.none.result c.requires.ready c.none.ensures.row c.none.ensures.codes)

pub given-returns-in-Some : goal.given-returns-in-Some
given-returns-in-Some g t c =
    said_arguments c.in-More.is
    (one_given (parameter_kinds c.args.parameters) c.behind.result c.in-Some.ensures c.rest.ensures (boxed c.deref.ensures (came_as c.in_ok-value-in-More.was c.meaning.ensures)) (boxed_arguments c.deref-in-More.ensures c.in_ok-behind-in-More.ensures) c.argument_code.ensures.code
    c.argument_code.ensures.value c.behind.ensures.row c.behind.ensures.codes)

pub given-returns-in-None : goal.given-returns-in-None
given-returns-in-None g t c =
    said_arguments c.in-More.is
    (one_more (parameter_kinds c.args.parameters) c.none-in-None.result c.in-None.ensures (boxed c.deref.ensures (came_as c.in_ok-value-in-More.was c.meaning.ensures)) (boxed_arguments c.deref-in-More.ensures c.in_ok-behind-in-More.ensures) c.none-in-None.ensures.row c.none-in-None.ensures.codes)

pub at_elements-returns-in_err-said-clause-over : goal.at_elements-returns-in_err-said-clause-over
at_elements-returns-in_err-said-clause-over g t c =
    let system = c.args.context.now.system.now in
    let now = c.elements.invariant in
    let within : c.elements.stand.next < c.args.list.now.count = omega (arith, c.elements-test.true) in
    handed (GoesOver system _ _ (place_in c.args.context.now) c.args.making (expression_of c.args.body.now) c.args.list.now _) c.from_residual.ensures
    (stops_at c.args.context.now _ c.get-element.result c.elements.stand _ now.1 now.2 within refl refl c.get-element.ensures (came_as c.in_err-said.was c.with_element.ensures.reads))

pub at_elements-with_element-requires : goal.at_elements-with_element-requires
at_elements-with_element-requires g t c =
    let few : length (program_of c.args.context.now.system.now).tree ≤ most_nodes = omega (arith, c.len.ensures.few, c.len.ensures.number, ap length c.tree.ensures) in
    let now = c.elements.invariant in
    let known = context_later now.1 c.args.context.now c.requires.known in
    let element = element_there c.args.context.now c.get-element.result c.args.list.now c.elements.stand.next now.1 few c.get-element.ensures c.requires.elements in
    search (rules, known, element)

pub at_elements-elements-preserved : goal.at_elements-elements-preserved
at_elements-elements-preserved g t c =
    let system = c.args.context.now.system.now in
    let now = c.elements.invariant in
    let within : c.elements.stand.next < c.args.list.now.count = omega (arith, c.elements-test.true) in
    let said = came_as c.in_ok-said.was c.with_element.ensures.reads in
    let taken = c.in_ok-take_in.ensures in
    let element = element_there c.args.context.now c.get-element.result c.args.list.now c.elements.stand.next now.1 (omega (arith, c.len.ensures.few, c.len.ensures.number, ap length c.tree.ensures)) c.get-element.ensures c.requires.elements in (
      subst (λ (v : Vec Single Global). Rooms c.args.context.now.names.now v.items) (sym taken.names) c.with_element.ensures.room,
      loses c.leave.new.self (advances_then now.1 said.kept) c.leave.ensures,
      taken_in c.args.context.now c.take_in.new.stand c.get-element.result c.in_ok-said.said said.kept.sound.sound c.get-element.ensures
          (single_later said.kept c.get-element.result element) (stands_more said.kept.values said.kept.names said.kept.known now.2) within said.is taken.next taken.so_far taken.coded,
    )

pub at_elements-elements-smaller : goal.at_elements-elements-smaller
at_elements-elements-smaller g t c =
    let within : c.elements.stand.next < c.args.list.now.count = omega (arith, c.elements-test.true) in
    let further = done_further c.args.list.now.count c.args.making c.elements.stand.next (value_by any_names c.in_ok-said.said) within in
    let next = c.in_ok-take_in.ensures.next any_names in
    omega (arith, within, next, further)

pub over_form-returns-in_err-put-in-Ok : goal.over_form-returns-in_err-put-in-Ok
over_form-returns-in_err-put-in-Ok g t c =
    let stood = c.in_ok-list.ensures in
    let over = over_by c.making_of.ensures (sym c.requires.body) c.in-Ok.ensures.over in
    let kept_to = advances_then stood.kept over.kept in
    let ranged = ranged_more over.kept.values over.kept.names stood.is.ranged in
    out_of_memory (puts c.put.new.self _ kept_to c.put.ensures (going_is c.args.context.now c.args.form c.in_ok-list.list c.at_elements.new.stand c.in-Ok.ensures.room (context_later kept_to c.args.context.now c.requires.known) (elements_later over.kept c.in_ok-list.list stood.is.elements) ranged over.is.0)) c.from_residual-in_err-put-in-Ok.ensures

pub over_form-returns-in_err-put-in-Err-Need : goal.over_form-returns-in_err-put-in-Err-Need
over_form-returns-in_err-put-in-Err-Need g t c =
    let stood = c.in_ok-list.ensures in
    let over = over_by c.making_of.ensures (sym c.requires.body) (halted c.in-Err-Need.field-0-is c.in-Err-Need.ensures.over) in
    let kept_to = advances_then stood.kept over.kept in
    let ranged = ranged_more over.kept.values over.kept.names stood.is.ranged in
    out_of_memory (puts c.put-in-Err-Need.new.self _ kept_to c.put-in-Err-Need.ensures (going_is c.args.context.now c.args.form c.in_ok-list.list c.at_elements.new.stand c.in-Err-Need.ensures.room (context_later kept_to c.args.context.now c.requires.known) (elements_later over.kept c.in_ok-list.list stood.is.elements) ranged over.is.0)) c.from_residual-in_err-put-in-Err-Need.ensures

pub over_form-returns-in_ok-put-in-Ok : goal.over_form-returns-in_ok-put-in-Ok
over_form-returns-in_ok-put-in-Ok g t c =
    let system = c.args.context.now.system.now in
    let stood = c.in_ok-list.ensures in
    let over = over_by c.making_of.ensures (sym c.requires.body) c.in-Ok.ensures.over in
    let kept_to = advances_then stood.kept over.kept in
    let ranged = ranged_more over.kept.values over.kept.names stood.is.ranged in
    let kept = puts c.put.new.self _ kept_to c.put.ensures (going_is c.args.context.now c.args.form c.in_ok-list.list c.at_elements.new.stand c.in-Ok.ensures.room (context_later kept_to c.args.context.now c.requires.known) (elements_later over.kept c.in_ok-list.list stood.is.elements) ranged over.is.0) in
    over_ends system (place_in c.args.context.now) (expression_of c.args.form.now) c.requires.form c.in_ok-value-in-Ok.value kept ranged over.is.0 over.is.1 c.in_ok-value-in-Ok.ensures.same (c.in_ok-value-in-Ok.ensures.elements (program_of system) over.is.0.coded)

pub over_form-returns-in_ok-put-in-Err-Need : goal.over_form-returns-in_ok-put-in-Err-Need
over_form-returns-in_ok-put-in-Err-Need g t c =
    let system = c.args.context.now.system.now in
    let stood = c.in_ok-list.ensures in
    let over = over_by c.making_of.ensures (sym c.requires.body) (halted c.in-Err-Need.field-0-is c.in-Err-Need.ensures.over) in
    let kept_to = advances_then stood.kept over.kept in
    let ranged = ranged_more over.kept.values over.kept.names stood.is.ranged in
    let kept = puts c.put-in-Err-Need.new.self _ kept_to c.put-in-Err-Need.ensures (going_is c.args.context.now c.args.form c.in_ok-list.list c.at_elements.new.stand c.in-Err-Need.ensures.room (context_later kept_to c.args.context.now c.requires.known) (elements_later over.kept c.in_ok-list.list stood.is.elements) ranged over.is.0) in
    over_halts system (place_in c.args.context.now) (expression_of c.args.form.now) c.requires.form c.in-Err-Need.instance kept ranged over.is.0 over.is.1 over.is.2

pub standing-returns-in-Some : goal.standing-returns-in-Some
standing-returns-in-Some g t c =
    record {
      kept = loses c.take.new.self (advances_self c.requires.ready) c.in-Some.ensures.loses;
      is = taken c.args.context.now (expression_of c.args.form.now) c.args.saved.now c.requires.ready.saved c.in-Some.ensures.taken;
    }

pub standing-returns-in_err-from-in-None : goal.standing-returns-in_err-from-in-None
standing-returns-in_err-from-in-None g t c =
    let context = c.args.context.now in
    let e = expression_of c.args.form.now in
    let stopped = range_stops context.system.now (place_in context) context.names.now e c.requires.form (read_as (sym c.requires.range) (came_as c.in_err-from-in-None.was c.meaning.ensures)) in
    handed (ReadsStand context.system.now _ _ (place_in context) context.names.now (making_of e) e (body_of e)) c.from_residual.ensures
    (record { kept = advances_then (loses c.take.new.self (advances_self c.requires.ready) c.in-None.ensures.loses) stopped.kept; is = stopped.is })

pub standing-returns-in_ok-at_first-in-None : goal.standing-returns-in_ok-at_first-in-None
standing-returns-in_ok-at_first-in-None g t c =
    let range = read_as (sym c.requires.range) (came_as c.in_ok-from-in-None.was c.meaning.ensures) in
    let stood = stood_first c.args.context.now (expression_of c.args.form.now) range c.in_ok-at_first-in-None.ensures.kept c.in_ok-at_first-in-None.ensures.elements c.in_ok-at_first-in-None.ensures.known c.in_ok-at_first-in-None.ensures.first in
    record { kept = advances_then (loses c.take.new.self (advances_self c.requires.ready) c.in-None.ensures.loses) stood.kept; is = stood.is }

pub standing-returns-in_err-at_first-in-None : goal.standing-returns-in_err-at_first-in-None
standing-returns-in_err-at_first-in-None g t c =
    let context = c.args.context.now in
    let e = expression_of c.args.form.now in
    let range = read_as (sym c.requires.range) (came_as c.in_ok-from-in-None.was c.meaning.ensures) in
    let kept = advances_then (loses c.take.new.self (advances_self c.requires.ready) c.in-None.ensures.loses) (advances_then range.kept (advances_read range.kept.sound c.in_err-at_first-in-None.ensures.kept)) in
    handed (ReadsStand context.system.now _ _ (place_in context) context.names.now (making_of e) e (body_of e)) c.from_residual-in_err-at_first-in-None.ensures (record { kept = kept; is = tt })

pub with_element-returns-clause-reads : goal.with_element-returns-clause-reads
with_element-returns-clause-reads g t c = read_at_element c.args.context.now c.args.element (c.deref.ensures.value ∙ ap (λ (xs : List Single). slice_set xs 0 c.args.element) c.requires.room.1) c.meaning.ensures

pub meaning-returns-in-Leaf : goal.meaning-returns-in-Leaf
meaning-returns-in-Leaf g t c =
    let few : length (program_of c.args.context.now.system.now).tree ≤ most_nodes = omega (arith, c.len.ensures.few, c.len.ensures.number, ap length c.tree.ensures) in
    leaf_reads c.requires.ready c.in-Leaf.ensures c.put_leaf.ensures (leaf_known c.requires.ready.sound few c.args.context.now (expression_of c.args.expression.now) c.requires.known)

pub meaning-returns-in-One : goal.meaning-returns-in-One
meaning-returns-in-One g t c = one_makes c.args.expression.now c.in-One.ensures c.meaning.ensures c.make_whole.ensures

pub meaning-returns-in-Ok : goal.meaning-returns-in-Ok
meaning-returns-in-Ok g t c = token_goes c.args.expression.now c.in-Token.ensures c.in-Ok.is c.meaning-in-Token.ensures c.node-node.ensures c.put_token.ensures

pub meaning-returns-in-Err : goal.meaning-returns-in-Err
meaning-returns-in-Err g t c = token_stops c.args.expression.now c.in-Token.ensures c.in-Err.is c.meaning-in-Token.ensures

pub put_of_node-returns-in-Ok : goal.put_of_node-returns-in-Ok
put_of_node-returns-in-Ok g t c = node_goes c.args.form.now c.requires.part c.in-Ok.is c.meaning.ensures c.node-node.ensures c.put_node.ensures

pub put_of_node-returns-in-Err : goal.put_of_node-returns-in-Err
put_of_node-returns-in-Err g t c = node_stops c.args.form.now c.requires.part c.in-Err.is c.meaning.ensures

pub meaning-returns-in-Ok-came : goal.meaning-returns-in-Ok-came
meaning-returns-in-Ok-came g t c = two_make c.args.expression.now c.in-Two.ensures c.in-Ok-came.is c.meaning-in-Two.ensures c.meaning-in-Ok-came.ensures (omega (arith, c.len.ensures.few, c.len.ensures.number, ap length c.tree.ensures)) c.make_both.ensures

pub meaning-returns-in-Err-came : goal.meaning-returns-in-Err-came
meaning-returns-in-Err-came g t c = two_stop c.args.expression.now c.in-Two.ensures c.in-Err-came.is c.meaning-in-Two.ensures

pub put_call-returns-in-Ok-given : goal.put_call-returns-in-Ok-given
put_call-returns-in-Ok-given g t c = λ here. call_goes (came_as c.in-Ok.is c.meaning.ensures) c.node-node.ensures (for_parameters c.parameters-wanted.ensures c.in-Ok-given.ensures) c.call.ensures

pub put_call-returns-in-Err-given : goal.put_call-returns-in-Err-given
put_call-returns-in-Err-given g t c = λ here. call_stops_at (came_as c.in-Ok.is c.meaning.ensures) c.in-Err-given.ensures

pub put_call-returns-in-Err : goal.put_call-returns-in-Err
put_call-returns-in-Err g t c = λ here. came_as (sym c.in-Err.is) (call_stops (came_as c.in-Err.is c.meaning.ensures))

pub put_choice-returns-in-Some-true : goal.put_choice-returns-in-Some-true
put_choice-returns-in-Some-true g t c = λ here.
    let condition = said_is _ c.in-Some-true.ensures in
    if_then (came_as condition.1 c.meaning.ensures) condition.2 c.in-Some-true.field-0-test c.meaning-in-Some-true.ensures

pub put_choice-returns-in-Some-false : goal.put_choice-returns-in-Some-false
put_choice-returns-in-Some-false g t c = λ here.
    let condition = said_is _ c.in-Some-false.ensures in
    if_otherwise (came_as condition.1 c.meaning.ensures) condition.2 c.in-Some-false.field-0-test c.meaning-in-Some-false.ensures

pub put_choice-returns-in-None : goal.put_choice-returns-in-None
put_choice-returns-in-None g t c = λ here.
    let condition = none_said _ c.in-None.ensures in
    came_as (sym condition.1) (if_stops (came_as condition.1 c.meaning.ensures))

pub further-returns-in-Call : goal.further-returns-in-Call
further-returns-in-Call g t c = said c.in-Call.is (call_boxed c.deref.ensures (c.put_call.ensures _))

pub further-returns-in-Some-true : goal.further-returns-in-Some-true
further-returns-in-Some-true g t c =
    let left = said_is _ c.in-Some-true.ensures in
    said c.in-And.is (and_goes (came_as left.1 (boxed c.deref-in-And.ensures c.meaning.ensures)) left.2 c.in-Some-true.field-0-test (boxed c.deref-in-Some-true.ensures c.meaning-in-Some-true.ensures) c.round.ensures)

pub further-returns-in-Some-false : goal.further-returns-in-Some-false
further-returns-in-Some-false g t c =
    let left = said_is _ c.in-Some-false.ensures in
    said c.in-And.is (and_ends (came_as left.1 (boxed c.deref-in-And.ensures c.meaning.ensures)) left.2 c.in-Some-false.field-0-test)

pub further-returns-in-None : goal.further-returns-in-None
further-returns-in-None g t c =
    let left = none_said _ c.in-None.ensures in
    came_as (sym left.1) (said c.in-And.is (and_stops (came_as left.1 (boxed c.deref-in-And.ensures c.meaning.ensures))))

pub further-returns-in-Some-true-said : goal.further-returns-in-Some-true-said
further-returns-in-Some-true-said g t c =
    let left = said_is _ c.in-Some-true-said.ensures in
    said c.in-Or.is (or_ends (came_as left.1 (boxed c.deref-in-Or.ensures c.meaning-in-Or.ensures)) left.2 c.in-Some-true-said.field-0-test)

pub further-returns-in-Some-false-said : goal.further-returns-in-Some-false-said
further-returns-in-Some-false-said g t c =
    let left = said_is _ c.in-Some-false-said.ensures in
    said c.in-Or.is (or_goes (came_as left.1 (boxed c.deref-in-Or.ensures c.meaning-in-Or.ensures)) left.2 c.in-Some-false-said.field-0-test (boxed c.deref-in-Some-false-said.ensures c.meaning-in-Some-false-said.ensures) c.round-in-Some-false-said.ensures)

pub further-returns-in-None-said : goal.further-returns-in-None-said
further-returns-in-None-said g t c =
    let left = none_said _ c.in-None-said.ensures in
    came_as (sym left.1) (said c.in-Or.is (or_stops (came_as left.1 (boxed c.deref-in-Or.ensures c.meaning-in-Or.ensures))))

pub further-returns-in-If : goal.further-returns-in-If
further-returns-in-If g t c = said c.in-If.is (choice_boxed c.deref-in-If.ensures c.deref-in-If-2.ensures c.deref-in-If-3.ensures (c.put_choice.ensures _))
