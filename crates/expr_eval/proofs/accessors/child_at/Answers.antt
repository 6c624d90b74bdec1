use Rattle.std.proofs.Common.{◌<◌, ◌≤◌, List, ap, length, subst, sym, arith, ◌∙◌}
use Rattle.tree_arena.specs.Nodes.{Node, child_in, most_nodes}
use Rattle.tree_arena.specs.Terms.{IsTree}
use Rattle.equation_law.specs.Systems.{program_of}
use Rattle.expr_eval.proofs.Accessed.{code_within, element_by, no_element}
use Rattle.expr_eval.proofs.Hanging.{child_fits, child_sourced}
use Rattle.expr_eval.proofs.accessors.child_at.Goals as goal

pub returns-then-node-len-clause-element : goal.returns-then-node-len-clause-element
returns-then-node-len-clause-element c n is =
    let p = program_of c.args.system.now in
    let few : length p.tree ≤ most_nodes = subst (λ (t : List Node). length t ≤ most_nodes) c.tree-tree.ensures (omega (arith, c.len.ensures.number, c.len.ensures.few)) in
    let past : length p.tree ≤ c.args.node = subst (λ (t : List Node). length t ≤ c.args.node) c.tree-tree.ensures (omega (arith, c.len.ensures.number, c.if-node-len.true)) in
    sym (no_element is (subst IsTree c.tree-tree.ensures c.len.ensures.tree) few c.args.node c.args.k.0 c.args.i past)

pub of_source-requires : goal.of_source-requires
of_source-requires c = child_fits c.tree-tree.result.now c.args.node c.args.k.0 c.args.i c.child.result (omega (arith, c.len.ensures.number, c.len.type_inv)) c.child.ensures

pub returns-clause-element : goal.returns-clause-element
returns-clause-element c n is =
    let p = program_of c.args.system.now in
    let few : length p.tree ≤ most_nodes = subst (λ (t : List Node). length t ≤ most_nodes) c.tree-tree.ensures (omega (arith, c.len.ensures.number, c.len.ensures.few)) in
    let within : c.args.node < length p.tree = subst (λ (t : List Node). c.args.node < length t) c.tree-tree.ensures (omega (arith, c.len.ensures.number, c.if-node-len.false)) in
    element_by is few c.args.node c.args.k.0 c.args.i c.child.result c.of_source.result.0 within (c.child.ensures ∙ ap (λ (t : List Node). child_in t c.args.node c.args.k.0 c.args.i) c.tree-tree.ensures) c.of_source.ensures

pub returns-clause-within : goal.returns-clause-within
returns-clause-within c =
    let nodes = c.tree-tree.result.now in
    let few : length nodes ≤ most_nodes = omega (arith, c.len.ensures.number, c.len.ensures.few) in
    code_within c.child.result (child_sourced nodes c.args.node c.args.k.0 c.args.i c.child.result few c.child.ensures) c.of_source.result.0 c.of_source.ensures
