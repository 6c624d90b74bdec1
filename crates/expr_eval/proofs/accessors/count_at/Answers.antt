use Rattle.std.proofs.Common.{◌<◌, ◌≤◌, List, ap, length, subst, sym, arith, ◌∙◌}
use Rattle.tree_arena.specs.Nodes.{Node, count_in, most_nodes}
use Rattle.tree_arena.specs.Terms.{IsTree}
use Rattle.equation_law.specs.Systems.{program_of}
use Rattle.expr_eval.proofs.Accessed.{count_by, no_count}
use Rattle.expr_eval.proofs.accessors.count_at.Goals as goal

pub returns-then-node-len : goal.returns-then-node-len
returns-then-node-len c n is =
    let p = program_of c.args.system.now in
    let few : length p.tree ≤ most_nodes = subst (λ (t : List Node). length t ≤ most_nodes) c.tree-tree.ensures (omega (arith, c.len.ensures.number, c.len.ensures.few)) in
    let within : c.args.node < length p.tree = subst (λ (t : List Node). c.args.node < length t) c.tree-tree.ensures (omega (arith, c.len.ensures.number, c.if-node-len.true)) in
    count_by is few c.args.node c.args.k.0 c.count.result within (c.count.ensures ∙ ap (λ (t : List Node). count_in t c.args.node c.args.k.0) c.tree-tree.ensures)

pub returns-else-node-len : goal.returns-else-node-len
returns-else-node-len c n is =
    let p = program_of c.args.system.now in
    let few : length p.tree ≤ most_nodes = subst (λ (t : List Node). length t ≤ most_nodes) c.tree-tree.ensures (omega (arith, c.len.ensures.number, c.len.ensures.few)) in
    let past : length p.tree ≤ c.args.node = subst (λ (t : List Node). length t ≤ c.args.node) c.tree-tree.ensures (omega (arith, c.len.ensures.number, c.if-node-len.false)) in
    sym (no_count is (subst IsTree c.tree-tree.ensures c.len.ensures.tree) few c.args.node c.args.k.0 past)
