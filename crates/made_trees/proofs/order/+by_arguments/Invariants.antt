use Rattle.std.proofs.Common.{length}
use Rattle.equation_law.specs.Codes.{codes_in}
use Rattle.made_trees.proofs.order.+by_arguments.Given as goal

abbrev pub decreases-by_arguments : goal.decreases-by_arguments
decreases-by_arguments l = length (codes_in l.left)
