-- Those so far are the same.
use Rattle.std.proofs.Common.{◌≡◌, drop, map}
use Rattle.aspect_items.specs.Items.{seen_parameter}
use Rattle.attr_heads.specs.Parameters.{differ, parameter_types}
use Rattle.attr_heads.proofs.parameters.differ_from.Given as goal

abbrev pub invariant-loop-k : goal.invariant-loop-k
invariant-loop-k l =
    differ l.grammar (parameter_types l.grammar (map seen_parameter l.others)) (map seen_parameter l.parameters) ≡ differ l.grammar (drop l.k (parameter_types l.grammar (map seen_parameter l.others))) (drop l.k (map seen_parameter l.parameters))
