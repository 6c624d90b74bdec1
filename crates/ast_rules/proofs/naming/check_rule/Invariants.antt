use Rattle.std.proofs.Common.{map, take}
use Rattle.std.specs.List.{flat_map}
use Rattle.broken_rules.specs.Notes.{Notes}
use Rattle.names.specs.Among.{is_among}
use Rattle.ast_rules.specs.Naming.{component_broken}
use Rattle.ast_rules.specs.Written.{seen_component}
use Rattle.ast_rules.proofs.naming.check_rule.Given as goal

abbrev pub invariant-loop-component : goal.invariant-loop-component
invariant-loop-component l = Notes (flat_map (component_broken (is_among l.names)) (take l.component-index (map seen_component l.component-items))) l.initial.faults l.faults
