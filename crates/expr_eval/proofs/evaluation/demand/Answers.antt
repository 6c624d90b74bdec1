use Rattle.equation_law.specs.Systems.{program_of}
use Rattle.expr_eval.proofs.Calls.{needed, settled}
use Rattle.expr_eval.proofs.evaluation.demand.Goals as goal

pub returns-in-Ok-Some : goal.returns-in-Ok-Some
returns-in-Ok-Some g c =
    let p = program_of c.args.context.now.system.now in
    settled p _ _ (c.settled.ensures.kept p c.requires.sound) c.args.instance c.in-Ok-Some.value c.in-Ok-Some.field-0 c.in-Ok-Some.field-0-is (c.in-Ok-Some.ensures.answer p c.requires.sound c.requires.coded c.requires.known)

pub returns-in-Ok-None : goal.returns-in-Ok-None
returns-in-Ok-None g c =
    let p = program_of c.args.context.now.system.now in
    needed p _ _ (c.settled.ensures.kept p c.requires.sound) c.args.instance c.in-Ok-None.field-0 c.requires.coded c.requires.known c.in-Ok-None.field-0-is (c.in-Ok-None.ensures.answer p c.requires.sound c.requires.coded c.requires.known)
