-- The rows of the equations so far.
use Rattle.attr_rules.proofs.OwnRows.{Firsts}
use Rattle.attr_rules.proofs.RowLists.{AreEach}
use Rattle.attr_rules.proofs.dispatch.own_rows.Given as goal

abbrev pub invariant-loop-i : goal.invariant-loop-i
invariant-loop-i l = AreEach (Firsts l.targets l.attributes l.i) l.classes l.rows.items
