-- The calls go down the expression.
use Rattle.std.proofs.Common.{◌+◌, ◌*◌, max}
use Rattle.attr_rules.proofs.expression.NewArgs.TheLaws.{the_size as new_size}
use Rattle.attr_rules.proofs.expression.TArgs.TheLaws.{the_size as arguments_size}
use Rattle.attr_rules.proofs.expression.TExpr.TheLaws.{the_size}
use Rattle.attr_types.proofs.both_sides.+sides.Given as goal

abbrev pub decreases-set_sides : goal.decreases-set_sides
decreases-set_sides a = 2 * the_size a.expr.now

abbrev pub decreases-set_pair : goal.decreases-set_pair
decreases-set_pair a = 2 * max (the_size a.first.now) (the_size a.second.now) + 1

abbrev pub decreases-set_arguments : goal.decreases-set_arguments
decreases-set_arguments a = 2 * arguments_size a.arguments.now

abbrev pub decreases-set_new : goal.decreases-set_new
decreases-set_new a = 2 * new_size a.arguments.now
