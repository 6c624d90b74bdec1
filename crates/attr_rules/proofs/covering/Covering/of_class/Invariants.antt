-- The equations of the classes so far are taken in.
use Rattle.std.proofs.Common.{◌-◌, length}
use Rattle.ast_grammar.specs.Grammar.{superclasses_of}
use Rattle.attr_rules.proofs.CoveringLines.{Gathers}
use Rattle.attr_rules.proofs.covering.Covering.of_class.Given as goal

abbrev pub invariant-loop : goal.invariant-loop
invariant-loop l = Gathers (superclasses_of l.grammar) l.own l.class l.attributes (length l.grammar - l.counter) l.above l.covering
