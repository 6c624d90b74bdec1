use Rattle.std.proofs.Common.{◌≡◌, List, Some, ap, sym, subst, ◌∙◌, arith}
use Rattle.tree_arena.specs.Nodes.{Node, parent_in}
use Rattle.tree_arena.specs.Terms.{IsTree}
use Rattle.equation_law.specs.declared.system.System.{System}
use Rattle.equation_law.specs.Systems.{program_of}
use Rattle.equation_law.proofs.Above.{Falls, tree_falls}
use Rattle.inherited_walk.specs.Ways.{IsWay}
use Rattle.inherited_walk.proofs.Walking.{way_further}
use Rattle.inherited_walk.proofs.ways.top_of.Goals as goal

pub covers-requires-clause-above : goal.covers-requires-clause-above
covers-requires-clause-above c = tree_falls c.tree-tree.result.now c.len.ensures.tree c.loop-parent.at c.in-Some.parent c.in-Some.ensures

pub loop-parent-smaller : goal.loop-parent-smaller
loop-parent-smaller c =
    let less = tree_falls c.tree-tree.result.now c.len.ensures.tree c.loop-parent.at c.in-Some.parent c.in-Some.ensures in
    omega (arith, less, c.follow-at-in-Some.ensures.above)

pub loop-parent-preserved : goal.loop-parent-preserved
loop-parent-preserved c =
    let p = program_of c.args.system.now in
    let tree : c.tree-tree.result.now ≡ p.tree = c.tree-tree.ensures in
    let falls : Falls p.tree = tree_falls p.tree (subst IsTree tree c.len.ensures.tree) in
    let up : parent_in p.tree c.loop-parent.at ≡ Some c.in-Some.parent = ap (λ (t : List Node). parent_in t c.loop-parent.at) (sym tree) ∙ c.in-Some.ensures in
    let less = falls c.loop-parent.at c.in-Some.parent up in
    let more : IsWay p c.args.attr.0 c.in-Some.parent c.follow-at-in-Some.result = subst (λ (s : System). IsWay (program_of s) c.args.attr.0 c.in-Some.parent c.follow-at-in-Some.result) c.requires.same c.follow-at-in-Some.ensures in
    record {
      within = omega (arith, less, more.above, c.loop-parent.invariant.within);
      way = way_further p c.args.attr.0 c.args.node c.loop-parent.at c.in-Some.parent c.follow-at-in-Some.result falls c.loop-parent.invariant.way up (c.covers.ensures c.if-covers.false) more;
    }
