use Rattle.std.proofs.lemmas.Result.{IfOk-weaker}
use Rattle.std.proofs.Common.{Bool, Option, [], is_some, ap, ◌∙◌}
use Rattle.rag_io.specs.Decimal.{decimal}
use Rattle.rag_io.specs.declared.token.Place.{Place}
use Rattle.tree_syntax.specs.Written.{WritesInt}
use Rattle.tree_reader.specs.Grown.{small_code}
use Rattle.tree_reader.specs.Steps.{int_added, seen_state, value_added, with_minus}
use Rattle.tree_reader.proofs.Telling.{int_is}
use Rattle.tree_reader.proofs.laying.Laying.add_int.Goals as goal

pub returns : goal.returns
returns c =
    let g = c.args.grammar.now in
    let digits = c.args.digits.now in
    let s = seen_state g c.args.self.now in
    let old = with_minus c.take-minus.new.self s in
    IfOk-weaker c.add_value.result _ _
    (λ x h.
    h []
    ∙ ap (λ (b : Bool). value_added (WritesInt b digits) (small_code b (decimal digits)) c.unwrap_or.result old) c.is_some.ensures
    ∙ ap (λ (q : Place). value_added (WritesInt (is_some c.take-minus.result) digits) (small_code (is_some c.take-minus.result) (decimal digits)) q old) c.unwrap_or.ensures
    ∙ int_is c.take-minus.result digits c.args.place old
    ∙ ap (λ (m : Option Place). int_added m digits c.args.place old) c.take-minus.ensures.value
    ∙ ap (λ (m : Option Place). int_added c.args.self.now.minus digits c.args.place (with_minus m s)) c.take-minus.ensures.after)
    c.add_value.ensures
