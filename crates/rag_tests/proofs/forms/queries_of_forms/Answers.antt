use Rattle.std.proofs.Common.{All, ap, subst, sym, ◌∙◌}
use Rattle.std.proofs.lemmas.List.Elements.{All-push}
use Rattle.attr_rules.specs.Queries.{Query}
use Rattle.equation_law.specs.Created.{making_in}
use Rattle.rag_tests.specs.Nothing.{AsksNone}
use Rattle.rag_tests.proofs.forms.queries_of_forms.Goals as goal

pub loop-form-preserved : goal.loop-form-preserved
loop-form-preserved c =
    let none = ap (λ (q : Query). making_in q.body) c.of.ensures ∙ c.in_ok-query.ensures in
    subst (All AsksNone) (sym c.in_ok-push.ensures.items) (All-push AsksNone c.loop-form.queries.items c.of.result c.loop-form.invariant none)
