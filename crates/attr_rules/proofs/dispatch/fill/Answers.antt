use Rattle.std.proofs.Common.{None, ap, ◌∙◌}
use Rattle.std.proofs.lemmas.List.{take_all}
use Rattle.attr_rules.specs.Dispatching.{filled}
use Rattle.attr_rules.proofs.NearestRows.{filled_nothing, filled_passed, filled_taken}
use Rattle.attr_rules.proofs.dispatch.fill.Goals as goal
use Rattle.attr_rules.proofs.dispatch.fill.Goals.{in-Some, in_default}

pub loop-place-init : goal.loop-place-init
loop-place-init c = filled_nothing c.args.row.now

pub loop-place-preserved : goal.loop-place-preserved
loop-place-preserved c = elim c.match-held.branch [
  | in-Some w ↦ filled_taken c.args.row.now c.args.above.now c.loop-place.place None c.loop-place-test.true c.loop-place.invariant w.in-Some.equation w.in-Some.is (w.row-is ∙ w.put_first.ensures)
  | in_default w ↦ filled_passed c.args.row.now c.args.above.now c.loop-place.place None c.loop-place-test.true c.loop-place.invariant w.in_default.is w.row-is
]

pub returns : goal.returns
returns c = c.loop-place.invariant ∙ ap (filled c.args.row.now) (take_all c.loop-place.place c.args.above.now c.loop-place-test.false)
