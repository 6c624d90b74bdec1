use Rattle.attr_rules.proofs.CoveringSteps.{named_more, named_same}
use Rattle.attr_rules.proofs.covering.keep_named.Goals as goal
use Rattle.attr_rules.proofs.covering.keep_named.Goals.{in-Some+in_ok-keep_first, in_default}

pub loop-path-preserved : goal.loop-path-preserved
loop-path-preserved c = elim c.match-via.branch [
  | in-Some+in_ok-keep_first w ↦
      named_more c.args.children.now c.args.paths.now c.loop-path.path-index _ c.loop-path-test.true c.via.ensures c.args.named.now c.loop-path.named c.loop-path.invariant w.in-Some.via w.unwrap_or.result w.in-Some.is w.at_place-nearer.ensures
      w.unwrap_or.ensures w.in_ok-keep_first.ensures w.named-is
  | in_default w ↦ named_same c.args.children.now c.args.paths.now c.loop-path.path-index _ c.loop-path-test.true c.via.ensures c.args.named.now c.loop-path.named c.loop-path.invariant w.in_default.is w.named-is
]
