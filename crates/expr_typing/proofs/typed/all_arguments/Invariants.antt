-- The arguments that are left and those that are gathered are all.
use Rattle.std.proofs.Common.{◌≡◌, length, map}
use Rattle.attr_rules.specs.Expression.{arguments_of, expression_of}
use Rattle.expr_typing.specs.Typed.{arguments_in}
use Rattle.expr_typing.proofs.ArgumentsGathered.{before}
use Rattle.expr_typing.proofs.typed.all_arguments.Given as goal

abbrev pub invariant-loop-last : goal.invariant-loop-last
invariant-loop-last l = record {
  all : before (map expression_of l.front.items) (arguments_of l.arguments) ≡ arguments_in (map expression_of l.fn.list.items);
}

abbrev pub decreases-loop-last : goal.decreases-loop-last
decreases-loop-last l = length l.front.items
