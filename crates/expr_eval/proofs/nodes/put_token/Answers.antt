use Rattle.std.proofs.Common.{sym, ◌∙◌}
use Rattle.std.proofs.lemmas.Bool.{ltb-false, ltb-true}
use Rattle.tree_arena.specs.Nodes.{most_nodes}
use Rattle.equation_law.specs.Systems.{program_of}
use Rattle.equation_law.proofs.Pooled.{first_text}
use Rattle.expr_eval.proofs.Calls.{token_given}
use Rattle.expr_eval.proofs.Knowing.{token_known}
use Rattle.expr_eval.proofs.MadeNodes.{token_classless, token_later}
use Rattle.expr_eval.proofs.nodes.put_token.Goals as goal

pub token-requires : goal.token-requires
token-requires g c = ltb-false most_nodes c.args.node.0 (sym c.is_made.ensures ∙ c.if-not-is_made.true)

pub returns-then-not-is_made : goal.returns-then-not-is_made
returns-then-not-is_made g c =
    let sound = c.requires.sound in
    token_given sound (λ n named. c.token.ensures.value n (sound.named n named)) (c.token.ensures.coded (program_of c.args.context.now.system.now)) (token_known sound c.token.result c.args.kind c.args.component.0 c.args.node.0 c.token.ensures.value)

pub put_made_token-requires-clause-sound : goal.put_made_token-requires-clause-sound
put_made_token-requires-clause-sound g c = c.in-Some.ensures.kept.sound

pub put_made_token-requires-clause-made : goal.put_made_token-requires-clause-made
put_made_token-requires-clause-made g c = ltb-true most_nodes c.args.node.0 (sym c.is_made.ensures ∙ c.if-not-is_made.false)

pub put_made_token-requires-clause-known : goal.put_made_token-requires-clause-known
put_made_token-requires-clause-known g c = c.in-Some.ensures.kept.known c.args.node.0 c.requires.known

pub put_made_token-requires-clause-class : goal.put_made_token-requires-clause-class
put_made_token-requires-clause-class g c = λ n named. sym (c.in-Some.ensures.class n named)

pub returns-in-Some : goal.returns-in-Some
returns-in-Some g c = token_later c.in-Some.ensures.kept c.put_made_token.ensures

pub returns-in-None : goal.returns-in-None
returns-in-None g c =
    token_classless c.args.kind c.args.component.0 c.args.node.0 c.default_of.result c.in-None.ensures.kept (first_text c.args.context.now.system.now) c.in-None.ensures.class c.default_of.ensures.value (c.default_of.ensures.elements (program_of c.args.context.now.system.now))
