-- A `new`, and its arguments from one on.
use Rattle.std.proofs.Common.{◌≡◌, refl}
use Rattle.std.proofs.lemmas.Result.{IfOk-weaker, on_ok_weaker}
use Rattle.ast_grammar.specs.Grammar.{components_of}
use Rattle.attr_rules.specs.Expression.{expression_of, new_arguments_of}
use Rattle.attr_scope.specs.Seen.{seen_scope}
use Rattle.expr_typing.specs.Created.{argument_before}
use Rattle.attr_bodies.specs.Created.{rest_said}
use Rattle.attr_bodies.proofs.CreatedForms.{child_noted, known_noted, none_noted, none_said, one_noted, one_said}
use Rattle.attr_bodies.proofs.created.+created.Goals as goal

pub type_child-returns-clause-noted : goal.type_child-returns-clause-noted
type_child-returns-clause-noted t c =
    child_noted (seen_scope c.args.scope.now) c.in-New.arguments c.deref.result.now c.check_class-class.result c.in-New.is c.deref.ensures.value c.check_class-class.ensures.class c.args.place c.args.wanted
    c.check_class-class.ensures.noted c.check_child.ensures c.in_ok-arguments.ensures.noted

pub type_new-returns-clause-noted : goal.type_new-returns-clause-noted
type_new-returns-clause-noted t c =
    on_ok_weaker c.type_each.result (known_noted (seen_scope c.args.scope.now) c.args.place c.in-Some.class c.args.arguments.now c.in-Some.is refl c.check_made.ensures) c.type_each.ensures.noted

pub type_each-returns-in_default-taken-clause-noted : goal.type_each-returns-in_default-taken-clause-noted
type_each-returns-in_default-taken-clause-noted t c =
    let s = seen_scope c.args.scope.now in
    none_noted s c.args.place (components_of s.grammar c.args.class.0) c.args.k c.args.arguments.now c.taken.ensures.taken c.in_default-taken.is

pub type_each-returns-in_default-taken-clause-says : goal.type_each-returns-in_default-taken-clause-says
type_each-returns-in_default-taken-clause-says t c =
    let s = seen_scope c.args.scope.now in
    none_said s (components_of s.grammar c.args.class.0) c.args.k c.args.arguments.now c.taken.ensures.taken c.in_default-taken.is

pub type_each-returns-clause-noted : goal.type_each-returns-clause-noted
type_each-returns-clause-noted t c =
    let s = seen_scope c.args.scope.now in
    let noted = one_noted s c.args.place (components_of s.grammar c.args.class.0) c.args.k c.args.arguments.now c.in-len1-up.len_at_least c.first-item.is c.taken.ensures.taken c.in-Some.is c.in_ok-said.ensures.noted c.in_ok-behind.ensures.noted in
    IfOk-weaker c.argument_before.result _ _ (λ parts before. noted) c.argument_before.ensures

pub type_each-returns-clause-says : goal.type_each-returns-clause-says
type_each-returns-clause-says t c =
    let s = seen_scope c.args.scope.now in
    let one = expression_of c.in_ok-said.said in
    let others = new_arguments_of c.in_ok-behind.behind in
    IfOk-weaker c.argument_before.result (λ parts. new_arguments_of parts ≡ argument_before c.in-Some.takes one others) (λ parts. new_arguments_of parts ≡ rest_said s c.args.class c.args.k c.args.arguments.now)
    (λ parts before.
    one_said s (components_of s.grammar c.args.class.0) c.args.k c.args.arguments.now one others (new_arguments_of parts) c.in-len1-up.len_at_least c.first-item.is c.taken.ensures.taken c.in-Some.is c.in_ok-said.ensures.says
    c.in_ok-behind.ensures.says before)
    c.argument_before.ensures
