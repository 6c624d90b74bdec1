use Rattle.std.proofs.Common.{take, map}
use Rattle.ast_rules.specs.Members.{Adds, names_of_components}
use Rattle.ast_rules.specs.Written.{seen_component}
use Rattle.ast_rules.proofs.members.add_names.Given as goal

abbrev pub invariant-loop-component : goal.invariant-loop-component
invariant-loop-component l = Adds l.fn.names (names_of_components (take l.component-index (map seen_component l.components))) l.names
