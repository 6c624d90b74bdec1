-- What covers at the classes so far.
use Rattle.ast_grammar.specs.Grammar.{superclasses_of}
use Rattle.attr_rules.proofs.CoveringLines.{CoversEach}
use Rattle.attr_rules.proofs.dispatch.coverings.Given as goal

abbrev pub invariant-loop-class : goal.invariant-loop-class
invariant-loop-class l = CoversEach (superclasses_of l.grammar) l.own.items l.class l.coverings.items
