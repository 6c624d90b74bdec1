-- The calls go down the expression; what the arguments so far break, and what they say.
use Rattle.std.proofs.Common.{◌≡◌, ◌+◌, ◌*◌, drop, map, max, take}
use denote.Param.Weighed.{most}
use Rattle.broken_rules.specs.Notes.{Notes}
use Rattle.attr_rules.specs.Types.{parameter_kinds}
use Rattle.attr_bodies.specs.Bodies.{arguments_broken}
use Rattle.attr_rules.specs.Expression.{expression_of}
use Rattle.attr_scope.specs.Seen.{seen_scope}
use Rattle.aspect_items.specs.Expressions.{arguments_of, seen_expr}
use Rattle.aspect_items.proofs.expression.Expr.TheLaws.{the_size}
use Rattle.attr_bodies.proofs.ArgumentSteps.{said_each}
use Rattle.attr_bodies.proofs.bodies.+types.Given as goal

abbrev pub decreases-type_expr : goal.decreases-type_expr
decreases-type_expr a = 7 * the_size a.expr.now

abbrev pub decreases-type_part : goal.decreases-type_part
decreases-type_part a = 7 * the_size a.written.now + 1

abbrev pub decreases-type_operand : goal.decreases-type_operand
decreases-type_operand a = 7 * the_size a.operand.now + 1

abbrev pub decreases-type_node : goal.decreases-type_node
decreases-type_node a = 7 * the_size a.operand.now + 1

abbrev pub decreases-type_range : goal.decreases-type_range
decreases-type_range a = 7 * the_size a.range.now + 1

abbrev pub decreases-type_body : goal.decreases-type_body
decreases-type_body a = 7 * the_size a.body.now + 1

abbrev pub decreases-type_group : goal.decreases-type_group
decreases-type_group a = 7 * the_size a.inner.now + 1

abbrev pub decreases-type_one : goal.decreases-type_one
decreases-type_one a = 7 * the_size a.only.now + 2

abbrev pub decreases-type_pair : goal.decreases-type_pair
decreases-type_pair a = 7 * max (the_size a.first.now) (the_size a.second.now) + 2

abbrev pub decreases-type_argument : goal.decreases-type_argument
decreases-type_argument a = 7 * the_size a.argument.now + 2

abbrev pub decreases-type_prefixed : goal.decreases-type_prefixed
decreases-type_prefixed a = 7 * the_size a.operand.now + 2

abbrev pub decreases-type_cast : goal.decreases-type_cast
decreases-type_cast a = 7 * the_size a.operand.now + 2

abbrev pub decreases-type_test : goal.decreases-type_test
decreases-type_test a = 7 * the_size a.operand.now + 2

abbrev pub decreases-type_quantified : goal.decreases-type_quantified
decreases-type_quantified a = 7 * max (the_size a.range.now) (the_size a.body.now) + 2

abbrev pub decreases-type_arguments : goal.decreases-type_arguments
decreases-type_arguments a = 7 * most the_size a.arguments.now + 3

abbrev pub decreases-type_called : goal.decreases-type_called
decreases-type_called a = 7 * most the_size a.arguments.now + 4

abbrev pub decreases-type_call : goal.decreases-type_call
decreases-type_call a = 7 * most the_size a.arguments.now + 5

abbrev pub decreases-type_form : goal.decreases-type_form
decreases-type_form a = 7 * most the_size a.arguments.now + 4

abbrev pub decreases-type_call_alone : goal.decreases-type_call_alone
decreases-type_call_alone a = 7 * most the_size a.arguments.now + 6

abbrev pub decreases-type_member : goal.decreases-type_member
decreases-type_member a = 7 * most the_size a.arguments.now + 6

abbrev pub invariant-type_arguments-loop-argument : goal.invariant-type_arguments-loop-argument
invariant-type_arguments-loop-argument l = record {
  noted : Notes (arguments_broken (seen_scope l.scope) (parameter_kinds l.fn.wanted) (arguments_of (take l.argument-index (map seen_expr l.arguments)))) l.fn.faults l.faults;
  says : map expression_of l.list.items ≡ said_each (seen_scope l.scope) (take l.argument-index (map seen_expr l.arguments));
  left : parameter_kinds l.kinds ≡ drop l.argument-index (parameter_kinds l.fn.wanted);
}
