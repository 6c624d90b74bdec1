-- The calls go down the expression.
use Rattle.std.proofs.Common.{◌+◌, ◌*◌, max}
use Rattle.attr_rules.proofs.expression.NewArgs.TheLaws.{the_size as new_size}
use Rattle.attr_rules.proofs.expression.TArgs.TheLaws.{the_size as arguments_size}
use Rattle.attr_rules.proofs.expression.TExpr.TheLaws.{the_size}
use Rattle.monotone_check.proofs.calls.+calls.Given as goal

abbrev pub decreases-check_calls : goal.decreases-check_calls
decreases-check_calls a = 3 * the_size a.expression.now

abbrev pub decreases-check_two : goal.decreases-check_two
decreases-check_two a = 3 * max (the_size a.first.now) (the_size a.second.now) + 1

abbrev pub decreases-check_arguments : goal.decreases-check_arguments
decreases-check_arguments a = 3 * arguments_size a.arguments.now

abbrev pub decreases-check_tokens : goal.decreases-check_tokens
decreases-check_tokens a = 3 * new_size a.arguments.now

abbrev pub decreases-check_over : goal.decreases-check_over
decreases-check_over a = 3 * max (the_size a.set.now) (the_size a.body.now) + 2
