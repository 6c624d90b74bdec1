use Rattle.attr_rules.proofs.FirstPlaces.{first_held, first_past, first_put}
use Rattle.attr_rules.proofs.rows.put_first.Goals as goal
use Rattle.attr_rules.proofs.rows.put_first.Goals.{else-place-row-via-else-place-row, else-place-row-via-then-place-row+else-is_none}

pub returns-then-is_none : goal.returns-then-is_none
returns-then-is_none g c = first_put c.args.row.now c.args.place c.args.item c.index-row-place.result c.if-place-row.true c.if-is_none.ensures

pub returns-else-place-row : goal.returns-else-place-row
returns-else-place-row g c = elim c.else-place-row.branch [
  | else-place-row-via-then-place-row+else-is_none w ↦ first_held c.args.row.now c.args.place c.args.item w.index-row-place.result w.if-is_none.ensures
  | else-place-row-via-else-place-row w ↦ first_past c.args.row.now c.args.place c.args.item w.if-place-row.false
]
