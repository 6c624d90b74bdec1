use Rattle.equation_law.specs.Systems.{program_of}
use Rattle.equation_law.proofs.Pooled.{first_text}
use Rattle.expr_eval.proofs.MadeNodes.{class_some, made_known, made_none, made_other}
use Rattle.expr_eval.proofs.nodes.put_made_token.Goals as goal

pub maker_of-maker-requires-clause-class : goal.maker_of-maker-requires-clause-class
maker_of-maker-requires-clause-class g c = λ n named. class_some c.args.class (c.requires.class n named)

pub returns-then-is_wanted : goal.returns-then-is_wanted
returns-then-is_wanted g c =
    let p = program_of c.args.context.now.system.now in
    made_known c.args.kind c.args.component.0 c.args.node c.args.class c.maker_of-maker.result c.in-Ok-Some.field-0 c.requires.class c.maker_of-maker.ensures c.in-Ok-Some.ensures c.requires.known c.in-Ok-Some.field-0-0 c.made_token-code.result c.decoded.result c.in-Ok-Some.field-0-is
    c.made_token-code.ensures (first_text c.args.context.now.system.now) (c.is_wanted.ensures.wanted c.if-is_wanted.true) c.decoded.ensures.value (c.decoded.ensures.coded p)

pub returns-in-Ok-Some : goal.returns-in-Ok-Some
returns-in-Ok-Some g c =
    let p = program_of c.args.context.now.system.now in
    made_other c.args.kind c.args.component.0 c.args.node c.args.class c.maker_of-maker.result c.in-Ok-Some.field-0 c.requires.class c.maker_of-maker.ensures c.in-Ok-Some.ensures c.requires.known c.in-Ok-Some.field-0-0 c.default_of.result c.in-Ok-Some.field-0-is (first_text c.args.context.now.system.now)
    (c.is_wanted.ensures.other c.if-is_wanted.false) c.default_of.ensures.value (c.default_of.ensures.elements p)

pub returns-in-Ok-None : goal.returns-in-Ok-None
returns-in-Ok-None g c = made_none c.args.kind c.args.component.0 c.args.node c.args.class c.maker_of-maker.result c.in-Ok-None.field-0 c.requires.class c.maker_of-maker.ensures c.in-Ok-None.ensures c.requires.known c.in-Ok-None.field-0-is
