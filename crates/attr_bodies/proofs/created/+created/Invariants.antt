-- The calls go down the arguments, and from one component to the next.
use Rattle.std.proofs.Common.{◌+◌, ◌-◌, ◌*◌}
use denote.Param.Weighed.{most}
use Rattle.aspect_items.proofs.expression.Expr.TheLaws.{the_size}
use Rattle.attr_bodies.proofs.created.+created.Given as goal

abbrev pub decreases-type_child : goal.decreases-type_child
decreases-type_child a = 32 * the_size a.argument.now

abbrev pub decreases-type_given : goal.decreases-type_given
decreases-type_given a = 32 * the_size a.argument.now + 1

abbrev pub decreases-type_each : goal.decreases-type_each
decreases-type_each a = 32 * most the_size a.arguments.now + 2 + (16 - a.k)

abbrev pub decreases-type_new : goal.decreases-type_new
decreases-type_new a = 32 * most the_size a.arguments.now + 19
