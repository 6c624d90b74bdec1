use Rattle.std.proofs.Common.{◌∷◌, sym, ap, ◌∙◌}
use Rattle.expr_eval.proofs.Kept.{same_names}
use Rattle.expr_eval.proofs.saved.Going.has_names.Goals as goal

pub returns-in-Some : goal.returns-in-Some
returns-in-Some c e =
    (c.in-Some.field-0-0.now, sym c.deref.ensures.value ∙ c.in-Some.ensures.cases.0 ∙ ap (λ xs. c.in-Some.field-0-0.now ∷ xs) (same_names c.in-Some.own.now c.args.names.now (sym c.eq.ensures ∙ e)))
