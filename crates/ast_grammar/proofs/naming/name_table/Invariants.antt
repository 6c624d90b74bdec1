use Rattle.std.proofs.Common.{◌≡◌, [], ◌∷◌, take}
use Rattle.std.specs.List.{flat_map}
use Rattle.names.specs.Among.{with_names}
use Rattle.ast_rules.specs.Members.{names_of_components}
use Rattle.ast_rules.specs.Naming.{names_of}
use Rattle.ast_rules.specs.Written.{WrittenRule, seen_rules}
use Rattle.ast_grammar.proofs.naming.name_table.Given as goal

abbrev pub invariant-loop-rule : goal.invariant-loop-rule
invariant-loop-rule l =
    let rules = seen_rules l.rules in
    l.names ≡ with_names (with_names ([] ∷ []) (names_of rules)) (flat_map (λ (r : WrittenRule). names_of_components r.components) (take l.rule-index rules))
