-- The calls go down the parameters.
use Rattle.std.proofs.Common.{length}
use Rattle.attr_heads.proofs.parameters.+differ.Given as goal

abbrev pub decreases-differ : goal.decreases-differ
decreases-differ l = length l.parameters.now
