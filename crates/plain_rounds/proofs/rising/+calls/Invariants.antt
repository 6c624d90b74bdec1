-- The calls go down the expression.
use Rattle.std.proofs.Common.{◌+◌, ◌*◌, max}
use Rattle.attr_rules.proofs.expression.NewArgs.TheLaws.{the_size as new_size}
use Rattle.attr_rules.proofs.expression.TArgs.TheLaws.{the_size as arguments_size}
use Rattle.attr_rules.proofs.expression.TExpr.TheLaws.{the_size}
use Rattle.plain_rounds.proofs.rising.+calls.Given as goal

abbrev pub decreases-calls : goal.decreases-calls
decreases-calls a = 3 * the_size a.expression.now

abbrev pub decreases-one_calls : goal.decreases-one_calls
decreases-one_calls a = 3 * max (the_size a.first.now) (the_size a.second.now) + 1

abbrev pub decreases-calls_in : goal.decreases-calls_in
decreases-calls_in a = 3 * arguments_size a.arguments.now

abbrev pub decreases-calls_in_tokens : goal.decreases-calls_in_tokens
decreases-calls_in_tokens a = 3 * new_size a.arguments.now
