use Rattle.std.proofs.Common.{sym, ◌∙◌}
use Rattle.equation_law.specs.Codes.{codes_in}
use Rattle.expr_eval.proofs.Bound.{no_place, place_more}
use Rattle.expr_eval.proofs.binding.push_places.Goals as goal

pub loop-place-preserved : goal.loop-place-preserved
loop-place-preserved c = record {
  row = c.rest-given.ensures.row;
  all = λ n.
      place_more n c.loop-place.names.items c.push.new.names.items c.integer.result (codes_in c.loop-place.given) (codes_in c.rest-given.result) c.in-Some.place c.in-Some.ensures c.rest-given.ensures.codes c.in_ok-push.ensures (c.integer.ensures n)
      ∙ c.loop-place.invariant.all n;
}

pub returns : goal.returns
returns c = λ n. sym (no_place n c.loop-place.names.items (codes_in c.loop-place.given) c.in_default.ensures) ∙ c.loop-place.invariant.all n
