use Rattle.std.proofs.Common.{refl, subst, sym}
use Rattle.attr_rules.specs.Expression.{expression_of}
use Rattle.expr_eval.specs.Saved.{IsAt}
use Rattle.expr_eval.proofs.saved.Saved.take.Goals as goal

pub returns-clause-taken : goal.returns-clause-taken
returns-clause-taken c =
    let going = c.swap_remove-going.result in
    let is = c.swap_remove-going.ensures.value in
    let found = c.in_ok-k.ensures in
    (going, (c.in_ok-k.k, found.0, sym is), subst (IsAt c.args.context.now (expression_of c.args.form.now)) (sym is) (found.1 going), refl, refl)
