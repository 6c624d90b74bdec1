-- The calls go down the expression.
use Rattle.std.proofs.Common.{◌+◌, ◌*◌, max}
use Rattle.attr_rules.proofs.expression.TExpr.TheLaws.{the_size}
use Rattle.plain_rounds.proofs.rising.+rising.Given as goal

abbrev pub decreases-rises : goal.decreases-rises
decreases-rises a = 3 * the_size a.expression.now

abbrev pub decreases-both_rise : goal.decreases-both_rise
decreases-both_rise a = 3 * max (the_size a.first.now) (the_size a.second.now) + 1

abbrev pub decreases-second_alone_rises : goal.decreases-second_alone_rises
decreases-second_alone_rises a = 3 * the_size a.second.now + 1

abbrev pub decreases-in_body : goal.decreases-in_body
decreases-in_body a = 3 * the_size a.body.now + 1

abbrev pub decreases-over_list_rises : goal.decreases-over_list_rises
decreases-over_list_rises a = 3 * the_size a.body.now + 2

abbrev pub decreases-over_set_rises : goal.decreases-over_set_rises
decreases-over_set_rises a = 3 * max (the_size a.range.now) (the_size a.body.now) + 2

abbrev pub decreases-sets_rise : goal.decreases-sets_rise
decreases-sets_rise a = 3 * max (the_size a.first.now) (the_size a.second.now) + 1
