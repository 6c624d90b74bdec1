use Rattle.attr_rules.specs.Expression.{new_arguments_of}
use Rattle.equation_law.specs.Systems.{program_of}
use Rattle.expr_eval.specs.Evaluating.{place_in}
use Rattle.expr_eval.proofs.Found.{image_given, image_stopped}
use Rattle.expr_eval.proofs.sites.image.Goals as goal

pub returns-in-Ok-clause-images : goal.returns-in-Ok-clause-images
returns-in-Ok-clause-images g c = λ class body.
    let context = c.args.context.now in
    image_given (program_of context.system.now) _ _ (place_in context) c.args.equation class (new_arguments_of c.args.parts.now) c.new-tokens.result c.put_tokens.new.tokens c.new-tokens.ensures body c.in-Ok.ensures

pub returns-in-Err-clause-images : goal.returns-in-Err-clause-images
returns-in-Err-clause-images g c = λ class body.
    let context = c.args.context.now in
    image_stopped (program_of context.system.now) _ _ (place_in context) c.args.equation class (new_arguments_of c.args.parts.now) c.new-tokens.result c.put_tokens.new.tokens c.in-Err.halt c.turned.result c.in-Err.ensures c.turned.ensures.is
