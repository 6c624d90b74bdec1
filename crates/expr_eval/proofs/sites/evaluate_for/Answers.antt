use Rattle.std.proofs.Common.{Some, ap, rules, subst, sym, ◌∙◌}
use Rattle.std.specs.List.{All}
use Rattle.attr_rules.specs.Expression.{expression_of, new_arguments_of}
use Rattle.attr_rules.specs.Rules.{RuleSet, body_at}
use Rattle.equation_law.specs.Systems.{program_of}
use Rattle.set_values.specs.Ordered.{KnowsSingle}
use Rattle.expr_eval.proofs.Knowing.{names_known}
use Rattle.expr_eval.proofs.Found.{names_made, names_read, not_new, site_evaluated, site_made}
use Rattle.expr_eval.proofs.sites.evaluate_for.Goals as goal

pub image-requires-clause-known : goal.image-requires-clause-known
image-requires-clause-known g c =
    let known = names_known c.requires.ready.sound c.args.attr.0 c.args.site.now _ c.requires.known c.in-Ok.ensures in
    record { this = c.requires.known.node; names = subst (All (KnowsSingle (g.R.Reader.tells c.args.reader.now))) (sym c.deref.ensures.value) known }

pub meaning-requires : goal.meaning-requires
meaning-requires g c =
    let known = names_known c.requires.ready.sound c.args.attr.0 c.args.site.now _ c.requires.known c.in-Ok.ensures in
    let names = subst (All (KnowsSingle (g.R.Reader.tells c.args.reader.now))) (sym c.deref.ensures.value) known in
    let node = c.requires.known.node in
    search (rules, names, node)

pub returns-in-New-clause-reads : goal.returns-in-New-clause-reads
returns-in-New-clause-reads g c =
    let p = program_of c.args.system.now in
    let site = c.args.site.now in
    let new = ap expression_of c.in-New.is in
    let body = ap (λ (rules : RuleSet). body_at rules site.equation.0) (sym c.rules.ensures) ∙ c.body-body.ensures ∙ ap Some new in
    site_made p _ _ c.args.attr.0 site _ _ c.in-New.field-0 (new_arguments_of c.in-New.parts) c.image.result c.rules.ensures c.body-body.ensures new (names_made p _ _ c.args.attr.0 site (new_arguments_of c.in-New.parts) c.deref.ensures.value c.in-Ok.ensures (c.image.ensures.images c.in-New.field-0 body))

pub returns-clause-reads : goal.returns-clause-reads
returns-clause-reads g c =
    let p = program_of c.args.system.now in
    site_evaluated p _ _ c.args.attr.0 c.args.site.now _ _ c.meaning.new.came c.turned.result c.rules.ensures c.body-body.ensures (not_new c.body-body.result.now c.in_default-body.not-New)
    (names_read p _ _ c.args.attr.0 c.args.site.now c.deref.ensures.value c.in-Ok.ensures c.meaning.ensures) c.turned.ensures.is
