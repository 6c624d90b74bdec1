use Rattle.std.proofs.Common.{◌≡◌, map, take}
use Rattle.names.specs.Among.{with_names}
use Rattle.ast_rules.specs.Members.{names_of_components}
use Rattle.ast_rules.specs.Written.{seen_component}
use Rattle.ast_grammar.proofs.naming.add_components.Given as goal

abbrev pub invariant-loop-component : goal.invariant-loop-component
invariant-loop-component l = l.names ≡ with_names l.fn.names (names_of_components (take l.component-index (map seen_component l.components)))
