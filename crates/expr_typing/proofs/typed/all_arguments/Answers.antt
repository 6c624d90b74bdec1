use Rattle.std.proofs.Common.{map}
use Rattle.attr_rules.specs.Expression.{expression_of}
use Rattle.expr_typing.specs.Typed.{arguments_in}
use Rattle.expr_typing.proofs.ArgumentsGathered.{gathers_one, gathers_start}
use Rattle.expr_typing.proofs.typed.all_arguments.Goals as goal

pub loop-last-init : goal.loop-last-init
loop-last-init c = record { all = gathers_start c.args.list.items }

pub loop-last-preserved : goal.loop-last-preserved
loop-last-preserved c = record {
  all = gathers_one c.loop-last.front.items c.pop.new.self.items c.in-Some.last c.loop-last.arguments c.in_ok-arguments.arguments (arguments_in (map expression_of c.args.list.items)) c.in-Some.ensures.items c.in_ok-arguments.ensures c.loop-last.invariant.all;
}
