use Rattle.std.proofs.Common.{ℕ, List, take}
use Rattle.ast_grammar.specs.Grammar.{superclasses_of}
use Rattle.broken_rules.specs.Notes.{Notes, each_from}
use Rattle.attr_coverage.specs.declared.created.Created.{Created}
use Rattle.attr_coverage.specs.Completeness.{lacking}
use Rattle.attr_coverage.specs.Dispatched.{HasMade}
use Rattle.attr_rules.specs.declared.dispatch.Target.{Target}
use Rattle.attr_rules.specs.Dispatching.{Dispatches}
use Rattle.attr_coverage.proofs.completeness.check_attributes.Given as goal

abbrev pub invariant-loop-i : goal.invariant-loop-i
invariant-loop-i l = (targets : List Target) → Dispatches (superclasses_of l.grammar) targets l.dispatch → (made : ℕ → List Created) → HasMade made l.made
    → Notes (each_from (lacking l.grammar l.attributes.attributes targets made) 0 (take l.i l.places)) l.initial.faults l.faults
