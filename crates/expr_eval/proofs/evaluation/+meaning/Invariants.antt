-- The calls go down the expression; how far a form over elements has gone.
use Rattle.std.proofs.Common.{◌+◌, ◌-◌, ◌*◌, max}
use Rattle.expr_eval.proofs.Lighter.{arguments_weight, weight}
use Rattle.attr_rules.specs.Expression.{expression_of}
use Rattle.equation_law.specs.Systems.{program_of}
use Rattle.expr_eval.specs.Elements.{Rooms}
use Rattle.expr_eval.specs.Evaluating.{place_in}
use Rattle.expr_eval.specs.Reads.{Advances, state}
use Rattle.expr_eval.specs.Saved.{Stands}
use Rattle.expr_eval.proofs.evaluation.+meaning.Given as goal

abbrev pub decreases-meaning : goal.decreases-meaning
decreases-meaning g a = 9 * weight a.expression.now + 6

abbrev pub decreases-given : goal.decreases-given
decreases-given g a = 9 * arguments_weight a.arguments.now + 6

abbrev pub decreases-further : goal.decreases-further
decreases-further g a = 9 * weight a.form.now + 5

abbrev pub decreases-put_call : goal.decreases-put_call
decreases-put_call g a = 9 * (weight a.receiver.now + arguments_weight a.arguments.now) + 7

abbrev pub decreases-put_choice : goal.decreases-put_choice
decreases-put_choice g a = 9 * (weight a.condition.now + weight a.then.now + weight a.otherwise.now) + 7

abbrev pub decreases-put_of_node : goal.decreases-put_of_node
decreases-put_of_node g a = 9 * weight a.part.now + 7

abbrev pub decreases-over_form : goal.decreases-over_form
decreases-over_form g a = 9 * max (weight a.range.now) (weight a.body.now) + 9

abbrev pub decreases-standing : goal.decreases-standing
decreases-standing g a = 9 * weight a.range.now + 7

abbrev pub decreases-at_elements : goal.decreases-at_elements
decreases-at_elements g a = 9 * weight a.body.now + 8

abbrev pub decreases-with_element : goal.decreases-with_element
decreases-with_element g a = 9 * weight a.body.now + 7

abbrev pub invariant-at_elements-elements : goal.invariant-at_elements-elements
invariant-at_elements-elements g l =
    let system = l.context.system.now in
    Rooms l.context.names.now l.stand.names.items
    × Advances (program_of system) (state system (g.R.Reader.tells l.initial.reader) l.initial.saved) (state system (g.R.Reader.tells l.reader) l.saved)
    × Stands system (g.R.Reader.tells l.reader) (place_in l.context) l.making (expression_of l.body) l.list l.stand

abbrev pub decreases-at_elements-elements : goal.decreases-at_elements-elements
decreases-at_elements-elements g l = l.list.count - l.stand.next
