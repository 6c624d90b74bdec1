-- The row is filled from the classes so far.
use Rattle.std.proofs.Common.{◌-◌, length}
use Rattle.ast_grammar.specs.Grammar.{superclasses_of}
use Rattle.attr_rules.proofs.NearestRows.{Climbs}
use Rattle.attr_rules.proofs.dispatch.nearest_row.Given as goal

abbrev pub invariant-loop : goal.invariant-loop
invariant-loop l = Climbs (superclasses_of l.grammar) l.own l.class (length l.grammar - l.counter) l.above l.row.items
