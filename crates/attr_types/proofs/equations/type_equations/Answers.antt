use Rattle.std.proofs.Common.{[], ◌∷◌, length, ap, ◌∙◌}
use Rattle.std.proofs.lemmas.List.{length-append}
use Rattle.std.proofs.lemmas.Slice.Zip.{zip_turn}
use Rattle.attr_types.proofs.EquationBodies.{one_noted, one_said, one_target}
use Rattle.attr_types.proofs.equations.type_equations.Goals as goal

pub check_body-requires-clause-target : goal.check_body-requires-clause-target
check_body-requires-clause-target c =
    let given = c.into_iter-equation-iterator.ensures.into_iter_gives in
    let first = ap (λ z. z.a.rest.now) given ∙ ap (λ x. x.rest.now) c.zip-equation-items.ensures.first ∙ c.iter.ensures.rest in
    let second = ap (λ z. z.b.rest.now) given ∙ c.zip-equation-items.ensures.second.0 in
    let turn = zip_turn c.args.equations.now c.args.targets.now c.loop-equation.yielded c.into_iter-equation-iterator.result c.loop-equation.equation-iterator c.next.new.self c.next.result first second c.loop-equation.yielded_by
    (c.in-Some.equation, c.in-Some.target) c.in-Some.is c.next.ensures.steps in
    one_target c.args.grammar.now c.args.attributes.now.attributes c.args.equations.now (length c.loop-equation.yielded) c.args.targets.now c.requires.targets turn.2 turn.3

pub loop-equation-preserved : goal.loop-equation-preserved
loop-equation-preserved c =
    let given = c.into_iter-equation-iterator.ensures.into_iter_gives in
    let first = ap (λ z. z.a.rest.now) given ∙ ap (λ x. x.rest.now) c.zip-equation-items.ensures.first ∙ c.iter.ensures.rest in
    let second = ap (λ z. z.b.rest.now) given ∙ c.zip-equation-items.ensures.second.0 in
    let turn = zip_turn c.args.equations.now c.args.targets.now c.loop-equation.yielded c.into_iter-equation-iterator.result c.loop-equation.equation-iterator c.next.new.self c.next.result first second c.loop-equation.yielded_by
    (c.in-Some.equation, c.in-Some.target) c.in-Some.is c.next.ensures.steps in
    let g = c.args.grammar.now in
    let attributes = c.args.attributes.now.attributes in
    let equations = c.args.equations.now in
    let i = length c.loop-equation.yielded in
    rw (length-append c.loop-equation.yielded ((c.in-Some.equation, c.in-Some.target) ∷ []))
    (record {
      noted = one_noted g attributes equations i turn.2 turn.0 c.loop-equation.invariant.noted c.in_ok-body.ensures.noted;
      says = one_said g attributes equations i c.loop-equation.list.items c.push.new.list.items c.in_ok-body.body turn.2 turn.0 c.in_ok-push.ensures c.in_ok-body.ensures.says c.loop-equation.invariant.says;
    })
