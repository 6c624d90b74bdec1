use Rattle.std.proofs.Common.{List, option_map}
use Rattle.ast_grammar.specs.Grammar.{superclasses_of}
use Rattle.attr_rules.specs.declared.dispatch.Target.{Target}
use Rattle.attr_rules.specs.Dispatching.{Dispatches}
use Rattle.attr_rules.specs.Rules.{number_of_attribute}
use Rattle.attr_coverage.specs.Covering.{is_covered}
use Rattle.attr_coverage.specs.CoveringKept.{Adds, Grows}
use Rattle.attr_coverage.proofs.Following.{hangs_before}
use Rattle.attr_coverage.proofs.covering.Found.follow_components.Given as goal

abbrev pub invariant-loop-k : goal.invariant-loop-k
invariant-loop-k l = record {
  grown : Grows l.initial.self l.self;
  added : (targets : List Target) → Dispatches (superclasses_of l.grammar) targets l.dispatch
      → Adds (hangs_before l.grammar (is_covered (superclasses_of l.grammar) targets (option_map number_of_attribute l.first)) l.class.0 l.k) l.initial.self l.self;
}
