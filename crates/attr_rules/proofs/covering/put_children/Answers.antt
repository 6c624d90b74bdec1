use Rattle.std.proofs.Common.{◌∙◌}
use Rattle.attr_rules.proofs.CoveringSteps.{put_all, put_more, put_same}
use Rattle.attr_rules.proofs.covering.put_children.Goals as goal
use Rattle.attr_rules.proofs.covering.put_children.Goals.{else-is_children, then-is_children}

pub loop-path-preserved : goal.loop-path-preserved
loop-path-preserved c = elim c.if-is_children.branch [
  | then-is_children w ↦
      put_more c.args.paths.now c.loop-path.path-index _ c.loop-path-test.true c.is_children.ensures c.args.children.now c.loop-path.invariant w.if-is_children.true (w.children-is ∙ w.put_first.ensures)
  | else-is_children w ↦ put_same c.args.paths.now c.loop-path.path-index _ c.loop-path-test.true c.is_children.ensures c.args.children.now c.loop-path.invariant w.if-is_children.false w.children-is
]

pub returns-clause-each : goal.returns-clause-each
returns-clause-each c = put_all c.args.paths.now c.loop-path.path-index c.args.children.now c.loop-path.children c.loop-path-test.false c.requires c.loop-path.invariant
