use Rattle.std.proofs.Common.{sym, ◌∙◌}
use Rattle.std.proofs.lemmas.Bool.{ltb-false, ltb-true}
use Rattle.tree_arena.specs.Nodes.{most_nodes}
use Rattle.equation_law.specs.Systems.{program_of}
use Rattle.equation_law.proofs.Grown.{grows_itself}
use Rattle.expr_eval.proofs.nodes.child_of.Goals as goal

pub child-requires : goal.child-requires
child-requires g c = ltb-false most_nodes c.args.receiver.0 (sym c.is_made.ensures ∙ c.if-is_made.false)

pub returns-then-is_made : goal.returns-then-is_made
returns-then-is_made g c =
    let p = program_of c.args.system.now in
    let past = ltb-true most_nodes c.args.receiver.0 (sym c.is_made.ensures ∙ c.if-is_made.true) in
    let sound = c.requires.sound in
    record { kept = c.made_child.ensures.kept p sound; is = c.made_child.ensures.answer p sound past c.requires.known; known = c.made_child.ensures.known p sound past c.requires.known }

pub returns-else-is_made : goal.returns-else-is_made
returns-else-is_made g c = record { kept = grows_itself c.requires.sound; is = λ n at. c.child.ensures.child n (c.requires.sound.named n at); known = c.requires.sound.sources c.child.result.0 c.child.ensures.within }
