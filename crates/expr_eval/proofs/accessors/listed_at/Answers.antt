use Rattle.std.proofs.Common.{◌≤◌, List, length, pos, subst, sym, arith, ◌∙◌}
use Rattle.tree_arena.specs.Nodes.{Node}
use Rattle.equation_law.specs.Meaning.{element_at}
use Rattle.equation_law.specs.Names.{Reference}
use Rattle.equation_law.specs.Systems.{program_of}
use Rattle.expr_eval.specs.Evaluating.{world_in}
use Rattle.expr_eval.proofs.Accessed.{element_behind, on_node}
use Rattle.expr_eval.proofs.accessors.listed_at.Goals as goal

pub returns-then-place-len : goal.returns-then-place-len
returns-then-place-len c n is =
    let p = program_of c.args.system.now in
    let past : length p.tree ≤ c.args.place = subst (λ (t : List Node). length t ≤ c.args.place) c.tree.ensures (omega (arith, c.len.ensures.number, c.if-place-len.true)) in
    sym (element_behind p (n.node c.in-Some.node) c.args.k.0 c.args.place past) ∙ on_node is (λ (r : Reference). element_at (world_in c.args.system.now) c.args.k.0 r (pos c.args.place)) c.in-Some.node c.args.owner.0 c.in-Some.ensures
