-- The rows of the classes so far.
use Rattle.attr_rules.specs.Dispatching.{AreEmptyRows}
use Rattle.attr_rules.proofs.dispatch.empty_rows.Given as goal

abbrev pub invariant-loop : goal.invariant-loop
invariant-loop l = AreEmptyRows l.counter l.attributes l.rows.items
