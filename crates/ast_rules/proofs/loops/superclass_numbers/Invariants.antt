use Rattle.std.proofs.Common.{◌≡◌, take}
use Rattle.ast_rules.specs.Superclasses.{superclass_numbers}
use Rattle.ast_rules.specs.Written.{seen_rules}
use Rattle.ast_rules.proofs.loops.superclass_numbers.Given as goal

abbrev pub invariant-loop-rule : goal.invariant-loop-rule
invariant-loop-rule l = l.numbers.items ≡ superclass_numbers l.names (seen_rules (take l.rule-index l.rules))
