use Rattle.std.proofs.Common.{◌≡◌, List, Some, ap, sym, subst, ◌∙◌, arith}
use Rattle.tree_arena.specs.Nodes.{Node, parent_in}
use Rattle.tree_arena.specs.Terms.{IsTree}
use Rattle.equation_law.specs.declared.system.System.{System}
use Rattle.equation_law.specs.Systems.{program_of}
use Rattle.equation_law.proofs.Above.{Falls, tree_falls}
use Rattle.inherited_walk.specs.Ways.{IsWay}
use Rattle.inherited_walk.proofs.Walking.{way_further, way_itself, way_rest}
use Rattle.inherited_walk.proofs.ways.fill.Goals as goal

pub covers-requires-clause-above : goal.covers-requires-clause-above
covers-requires-clause-above c = tree_falls c.tree-tree.result.now c.len.ensures.tree c.loop-parent.at c.in-Some.parent c.in-Some.ensures

pub loop-parent-smaller : goal.loop-parent-smaller
loop-parent-smaller c = tree_falls c.tree-tree.result.now c.len.ensures.tree c.loop-parent.at c.in-Some.parent c.in-Some.ensures

pub loop-parent-preserved : goal.loop-parent-preserved
loop-parent-preserved c =
    let p = program_of c.args.system.now in
    let tree : c.tree-tree.result.now ≡ p.tree = c.tree-tree.ensures in
    let falls : Falls p.tree = tree_falls p.tree (subst IsTree tree c.len.ensures.tree) in
    let up : parent_in p.tree c.loop-parent.at ≡ Some c.in-Some.parent = ap (λ (t : List Node). parent_in t c.loop-parent.at) (sym tree) ∙ c.in-Some.ensures in
    let less = falls c.loop-parent.at c.in-Some.parent up in
    record {
      within = omega (arith, less, c.loop-parent.invariant.within);
      way = way_further p c.args.attr.0 c.args.node c.loop-parent.at c.in-Some.parent c.in-Some.parent falls c.loop-parent.invariant.way up (c.covers.ensures c.if-covers.false) (way_itself p c.args.attr.0 c.in-Some.parent);
      same = c.note.ensures ∙ c.loop-parent.invariant.same;
    }

pub note-requires : goal.note-requires
note-requires c =
    let p = program_of c.args.system.now in
    subst (λ (s : System). IsWay (program_of s) c.args.attr.0 c.loop-parent.at c.args.top) (sym (c.loop-parent.invariant.same ∙ c.requires.same))
    (way_rest p c.args.attr.0 c.args.node c.loop-parent.at c.args.top c.requires.way c.loop-parent.invariant.way (omega (arith, c.if-at-top.false)))
