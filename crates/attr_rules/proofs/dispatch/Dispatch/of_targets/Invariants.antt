-- The rows of the classes so far.
use Rattle.ast_grammar.specs.Grammar.{superclasses_of}
use Rattle.attr_rules.specs.Dispatching.{IsNearestRow}
use Rattle.attr_rules.proofs.RowLists.{AreEach}
use Rattle.attr_rules.proofs.dispatch.Dispatch.of_targets.Given as goal

abbrev pub invariant-loop-class : goal.invariant-loop-class
invariant-loop-class l = AreEach (IsNearestRow (superclasses_of l.grammar) l.own.items) l.class l.rows.items
