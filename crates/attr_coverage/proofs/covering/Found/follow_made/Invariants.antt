use Rattle.std.proofs.Common.{List, take}
use Rattle.ast_grammar.specs.Grammar.{superclasses_of}
use Rattle.attr_rules.specs.declared.dispatch.Target.{Target}
use Rattle.attr_rules.specs.Dispatching.{Dispatches}
use Rattle.attr_coverage.specs.Covering.{is_covered_for, may_be_made}
use Rattle.attr_coverage.specs.CoveringKept.{Adds, Grows}
use Rattle.attr_coverage.proofs.covering.Found.follow_made.Given as goal

abbrev pub invariant-loop-root : goal.invariant-loop-root
invariant-loop-root l = record {
  grown : Grows l.initial.self l.self;
  added : (targets : List Target) → Dispatches (superclasses_of l.grammar) targets l.dispatch
      → Adds (may_be_made l.grammar (is_covered_for l.grammar targets l.first) (take l.root-index l.made) l.class.0) l.initial.self l.self;
}
