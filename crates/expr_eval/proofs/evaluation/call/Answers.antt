use Rattle.std.proofs.Common.{rules}
use Rattle.equation_law.specs.Systems.{program_of}
use Rattle.set_values.proofs.TextCodes.{first_text_by}
use Rattle.expr_eval.proofs.Calls.{call_null, call_there}
use Rattle.expr_eval.proofs.Knowing.{default_in, value_known}
use Rattle.expr_eval.proofs.evaluation.call.Goals as goal

pub returns-then-eq : goal.returns-then-eq
returns-then-eq g c =
    let system = c.args.context.now.system.now in
    call_null (program_of system) _ c.args.attr c.args.args c.args.node.0 c.default_of.result c.attribute_kind-kind.result c.requires.sound (search rules) c.attribute_kind-kind.ensures
    (λ n at. c.default_of.ensures.value n (first_text_by system (c.requires.sound.named n at))) (c.default_of.ensures.elements (program_of system))
    (value_known c.requires.sound c.default_of.result (λ n is. c.default_of.ensures.value n (first_text_by system is)) (default_in (g.R.Reader.tells c.args.reader.now).knows c.attribute_kind-kind.result))

pub returns : goal.returns
returns g c =
    let p = program_of c.args.context.now.system.now in
    call_there p _ c.args.attr c.args.args _ c.args.node _ (λ e. search rules) c.demand.ensures
