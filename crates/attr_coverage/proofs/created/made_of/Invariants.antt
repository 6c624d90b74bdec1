use Rattle.std.proofs.Common.{◌≡◌, List}
use Rattle.std.specs.List.{filter_map, range_with_len}
use Rattle.ast_grammar.specs.Grammar.{superclasses_of}
use Rattle.attr_rules.specs.declared.dispatch.Target.{Target}
use Rattle.attr_rules.specs.Dispatching.{Dispatches}
use Rattle.attr_coverage.specs.Created.{created_at, root_by}
use Rattle.attr_coverage.specs.Dispatched.{numbers_of}
use Rattle.attr_coverage.proofs.created.made_of.Given as goal

abbrev pub invariant-loop-number : goal.invariant-loop-number
invariant-loop-number l = (targets : List Target) → Dispatches (superclasses_of l.grammar) targets l.dispatch
    → l.list.items ≡ filter_map (created_at l.grammar l.attributes.attributes (root_by l.grammar targets (numbers_of l.roots)) l.class.0) (range_with_len 0 l.number)
