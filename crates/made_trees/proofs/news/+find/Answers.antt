use Rattle.std.proofs.Common.{◌+◌, ap, subst, ◌∙◌}
use Rattle.attr_rules.specs.Expression.{new_arguments_of}
use Rattle.attr_rules.specs.declared.expression.NewArgs.{NewArgs}
use Rattle.attr_rules.specs.Typing.{nodes_below, tokens_made}
use Rattle.made_trees.specs.declared.news.Front.{Front}
use Rattle.made_trees.specs.Stands.{IsFoundFrom}
use Rattle.made_trees.proofs.Finding.{beside}
use Rattle.made_trees.proofs.news.+find.Goals as goal

pub returns-in-Err : goal.returns-in-Err
returns-in-Err t c =
    let first = c.in-Err.ensures.0 ∙ ap (λ (x : Front). x.first + nodes_below (new_arguments_of c.deref-in-Child.result.now)) c.inside.ensures
    ∙ ap (λ (x : NewArgs). c.args.at.first + 1 + nodes_below (new_arguments_of x)) c.deref-in-Child.ensures in
    beside c.args.at c.behind_child.result c.in-Child.class (new_arguments_of c.in-Child.below.value) (new_arguments_of c.in-Child.rest.value) _ c.args.wanted c.in-Err.next c.tokens_made.result c.find-in-Err.result
    (ap new_arguments_of c.in-Child.is) (c.tokens_made.ensures ∙ ap (λ (x : NewArgs). tokens_made (new_arguments_of x)) c.deref-in-Err-2.ensures) c.behind_child.ensures first c.in-Err.ensures.1
    (subst (λ (x : NewArgs). IsFoundFrom c.behind_child.result (new_arguments_of x) c.args.wanted c.find-in-Err.result) c.deref-in-Err.ensures c.find-in-Err.ensures)
