use Rattle.std.proofs.Common.{rules}
use Rattle.attr_rules.proofs.OwnRows.{empty_more}
use Rattle.attr_rules.proofs.dispatch.empty_rows.Goals as goal

pub loop-preserved : goal.loop-preserved
loop-preserved c = empty_more c.args.attributes c.loop.counter c.in_ok-row.row {rows = c.loop.rows.items} (search rules) (search rules) c.loop.invariant
