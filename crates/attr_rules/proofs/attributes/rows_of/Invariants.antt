-- The rows of the classes so far.
use Rattle.attr_rules.specs.KeptAttributes.{IsRow}
use Rattle.attr_rules.proofs.RowLists.{AreEach}
use Rattle.attr_rules.proofs.attributes.rows_of.Given as goal

abbrev pub invariant-loop-class : goal.invariant-loop-class
invariant-loop-class l = AreEach (IsRow l.subclasses l.names l.kept) l.class l.rows.items
