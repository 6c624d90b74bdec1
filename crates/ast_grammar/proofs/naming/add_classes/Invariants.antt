use Rattle.std.proofs.Common.{◌≡◌, take}
use Rattle.names.specs.Among.{with_names}
use Rattle.ast_rules.specs.Naming.{names_of}
use Rattle.ast_rules.specs.Written.{seen_rules}
use Rattle.ast_grammar.proofs.naming.add_classes.Given as goal

abbrev pub invariant-loop-rule : goal.invariant-loop-rule
invariant-loop-rule l = l.names ≡ with_names l.fn.names (names_of (take l.rule-index (seen_rules l.rules)))
