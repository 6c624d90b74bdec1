use Rattle.std.proofs.Common.{◌≡◌, List, length}
use Rattle.ast_grammar.specs.Grammar.{superclasses_of}
use Rattle.attr_rules.specs.declared.dispatch.Target.{Target}
use Rattle.attr_rules.specs.Dispatching.{Dispatches}
use Rattle.attr_coverage.specs.Created.{made_of}
use Rattle.attr_coverage.specs.Dispatched.{HasMade, numbers_of}
use Rattle.attr_coverage.proofs.created.made_by_class.Given as goal

abbrev pub invariant-loop-number : goal.invariant-loop-number
invariant-loop-number l = record {
  long : length l.rows.items ≡ l.number;
  made : (targets : List Target) → Dispatches (superclasses_of l.grammar) targets l.dispatch → HasMade (made_of l.grammar l.attributes.attributes targets (numbers_of l.roots)) l.rows.items;
}
