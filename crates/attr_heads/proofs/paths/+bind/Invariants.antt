-- The calls go down the types.
use Rattle.std.proofs.Common.{length}
use Rattle.attr_rules.specs.Types.{parameter_kinds}
use Rattle.attr_heads.proofs.paths.+bind.Given as goal

abbrev pub decreases-bind : goal.decreases-bind
decreases-bind l = length (parameter_kinds l.bound)
