use Rattle.std.proofs.Common.{[], ◌++◌, map, take}
use Rattle.broken_rules.specs.Notes.{Notes, each_after}
use Rattle.names.specs.Among.{is_among}
use Rattle.names.specs.Known.{Knows}
use Rattle.aspect_items.specs.Items.{seen_parameter}
use Rattle.attr_heads.specs.Parameters.{parameter_broken, parameter_names}
use Rattle.attr_heads.proofs.parameters.check_parameters.Given as goal

abbrev pub invariant-loop-count : goal.invariant-loop-count
invariant-loop-count l = record {
  noted : Notes (each_after (parameter_broken l.grammar l.initial.names) [] (take l.count (map seen_parameter l.parameters))) l.initial.faults l.faults;
  known : Knows l.names (is_among (l.initial.names ++ parameter_names (take l.count (map seen_parameter l.parameters))));
}
