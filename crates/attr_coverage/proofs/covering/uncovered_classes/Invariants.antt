use Rattle.std.proofs.Common.{◌≡◌, ◌-◌, ℕ, List, length}
use Rattle.ast_grammar.specs.Grammar.{superclasses_of}
use Rattle.attr_rules.specs.declared.dispatch.Target.{Target}
use Rattle.attr_rules.specs.Dispatching.{Dispatches}
use Rattle.attr_coverage.specs.declared.created.Created.{Created}
use Rattle.attr_coverage.specs.Covering.{is_covered_for}
use Rattle.attr_coverage.specs.CoveringKept.{AreListed}
use Rattle.attr_coverage.specs.Dispatched.{HasMade}
use Rattle.attr_coverage.proofs.PartWay.{IsPartWay}
use Rattle.attr_coverage.proofs.covering.uncovered_classes.Given as goal

abbrev pub invariant-loop-next : goal.invariant-loop-next
invariant-loop-next l = record {
  long : length l.found.marks.items ≡ length l.grammar;
  kept : AreListed l.found;
  part : (targets : List Target) → Dispatches (superclasses_of l.grammar) targets l.dispatch → (made : ℕ → List Created) → HasMade made l.made
      → IsPartWay l.grammar (is_covered_for l.grammar targets l.first) made l.next l.found;
}

abbrev pub decreases-loop-next : goal.decreases-loop-next
decreases-loop-next l = length l.grammar - l.next
