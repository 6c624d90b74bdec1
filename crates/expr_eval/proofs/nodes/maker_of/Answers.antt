use Rattle.std.proofs.Common.{◌≤◌, List, arith, length, subst}
use Rattle.tree_arena.specs.Nodes.{Node, most_nodes}
use Rattle.equation_law.specs.Codes.{reference_by}
use Rattle.equation_law.specs.Systems.{program_of}
use Rattle.equation_law.proofs.Grown.{grows_itself}
use Rattle.expr_eval.proofs.MadeNodes.{beside_itself, climbs, made_there, owned}
use Rattle.expr_eval.proofs.nodes.maker_of.Goals as goal

pub prove-unreachable-requires : goal.prove-unreachable-requires
prove-unreachable-requires g c = omega (arith, c.if-prove.true, c.len.ensures.few)

pub above-init : goal.above-init
above-init g c =
    let p = program_of c.args.system.now in
    let few : length p.tree ≤ most_nodes = subst (λ (t : List Node). length t ≤ most_nodes) c.tree.ensures (omega (arith, c.len.ensures.number, c.len.ensures.few)) in
    (grows_itself c.requires.sound, c.requires.made, λ n named. beside_itself p (reference_by n.node c.args.node.0) (made_there (c.requires.sound.named n named) few c.args.node.0 c.requires.made (c.requires.class n named)) (c.requires.class n named), c.requires.known)

pub above-smaller : goal.above-smaller
above-smaller g c = c.in-Inside.ensures.falls (program_of c.args.system.now) c.above.invariant.0.sound c.above.invariant.1

pub above-preserved : goal.above-preserved
above-preserved g c = climbs c.args.node c.above.at c.above.invariant.0 c.above.invariant.2 c.above.invariant.1 c.above.invariant.3 c.in-Inside.ensures

pub made_arguments-args-requires-clause-sound : goal.made_arguments-args-requires-clause-sound
made_arguments-args-requires-clause-sound g c = (c.in-Owner.ensures.kept (program_of c.args.system.now) c.above.invariant.0.sound).sound

pub made_arguments-args-requires-clause-known : goal.made_arguments-args-requires-clause-known
made_arguments-args-requires-clause-known g c = (c.in-Owner.ensures.kept (program_of c.args.system.now) c.above.invariant.0.sound).known c.above.at.0 c.above.invariant.3

pub returns-in-Owner : goal.returns-in-Owner
returns-in-Owner g c = owned c.args.node c.above.at c.above.invariant.0 c.above.invariant.2 c.above.invariant.1 c.above.invariant.3 c.in-Owner.ensures c.made_arguments-args.ensures
