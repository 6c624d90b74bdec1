use Rattle.std.proofs.Common.{rules, arith, true, false, ◌∙◌}
use Rattle.memo_cells.proofs.Causes.{log_then}
use Rattle.memo_cells.proofs.Counting.{below_most, below_same, counted}
use Rattle.memo_cells.proofs.More.{at_least_then}
use Rattle.memo_cells.proofs.cells.Cells.settled_count.Goals.{then-is_settled, else-is_settled}
use Rattle.memo_cells.proofs.cells.Cells.settled_count.Goals as goal

pub overflow_add-count : goal.overflow_add-count
overflow_add-count c = let most = below_most c.loop-place.pass c.loop-place.place in let count = c.loop-place.invariant.2 in search (rules, most, count)

pub loop-place-preserved : goal.loop-place-preserved
loop-place-preserved c =
    let v = c.loop-place.pass in
    let w = c.is_settled.new.pass in
    let n = c.loop-place.place in
    let same = below_same v w n n c.is_settled.ensures.kept.values c.is_settled.ensures.others (omega arith) in (
      c.is_settled.ensures.own,
      at_least_then c.loop-place.invariant.1 c.is_settled.ensures.kept,
      elim c.if-is_settled.branch [
        | then-is_settled h ↦ counted v w n c.loop-place.count c.if-is_settled.count c.is_settled.result true same c.is_settled.ensures.settled c.loop-place.invariant.2 h.if-is_settled.true (omega (arith, h.count-is))
        | else-is_settled h ↦ counted v w n c.loop-place.count c.if-is_settled.count c.is_settled.result false same c.is_settled.ensures.settled c.loop-place.invariant.2 h.if-is_settled.false (omega (arith, h.count-is))
      ],
      c.is_settled.ensures.claims ∙ c.loop-place.invariant.3,
      log_then c.loop-place.invariant.4 c.is_settled.ensures.log,
    )
