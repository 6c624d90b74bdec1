use Rattle.std.proofs.Common.{[], take}
use Rattle.broken_rules.specs.Notes.{Notes, each_after}
use Rattle.names.specs.Known.{Knows, Numbers}
use Rattle.ast_rules.specs.Naming.{again_broken, is_class, names_of}
use Rattle.ast_rules.specs.Written.{seen_rules}
use Rattle.ast_rules.proofs.naming.collect_names.Given as goal

abbrev pub invariant-loop-rule : goal.invariant-loop-rule
invariant-loop-rule l = record {
  noted : Notes (each_after again_broken [] (take l.rule-index (seen_rules l.rules))) l.fn.faults l.faults;
  names : Knows l.names (is_class (take l.rule-index (seen_rules l.rules)));
  numbers : Numbers l.names (names_of (take l.rule-index (seen_rules l.rules)));
}
