use Rattle.std.proofs.Common.{take}
use Rattle.std.specs.List.{flat_map}
use Rattle.broken_rules.specs.Notes.{Notes}
use Rattle.names.specs.Among.{is_among}
use Rattle.ast_rules.specs.Naming.{rule_broken}
use Rattle.ast_rules.specs.Written.{seen_rules}
use Rattle.ast_rules.proofs.naming.check_naming.Given as goal

abbrev pub invariant-loop-rule : goal.invariant-loop-rule
invariant-loop-rule l = Notes (flat_map (rule_broken (is_among l.names)) (take l.rule-index (seen_rules l.rules))) l.initial.faults l.faults
