use Rattle.std.proofs.Common.{◌≡◌, List, map, take}
use Rattle.ast_rules.specs.Written.{WrittenRule, seen_component}
use Rattle.ast_grammar.specs.Building.{AreNames, component_numbered}
use Rattle.ast_grammar.proofs.numbering.own_components.Given as goal

abbrev pub invariant-loop-component : goal.invariant-loop-component
invariant-loop-component l =
    (rules : List WrittenRule) → AreNames rules l.names l.classes → l.own.items ≡ map (component_numbered rules) (take l.component-index (map seen_component l.components))
