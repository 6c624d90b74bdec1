use Rattle.std.proofs.Common.{◌≡◌, map, take}
use Rattle.ast_rules.specs.Written.{seen_rules}
use Rattle.ast_grammar.specs.Building.{items_of, own_numbered}
use Rattle.ast_grammar.proofs.numbering.number_components.Given as goal

abbrev pub invariant-loop-rule : goal.invariant-loop-rule
invariant-loop-rule l = map items_of l.all.items ≡ map (own_numbered (seen_rules l.rules)) (take l.rule-index (seen_rules l.rules))
