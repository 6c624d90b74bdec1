use Rattle.std.proofs.Common.{[], get_or, ap, ◌∙◌}
use Rattle.std.specs.Str.{bytes_eq}
use Rattle.equation_law.proofs.Pooled.{same_numbers}
use Rattle.expr_eval.proofs.operators.same_text.Goals as goal

pub returns : goal.returns
returns c =
    let texts = c.args.pool.now in
    c.eq.ensures
    ∙ same_numbers texts c.known.ensures.pooled c.known.result.0 c.known-2.result.0 c.known.ensures.within c.known-2.ensures.within
    ∙ ap (λ t. bytes_eq t (get_or texts c.known-2.result.0 [])) c.known.ensures.text ∙ ap (bytes_eq (get_or texts c.args.left.0 [])) c.known-2.ensures.text
