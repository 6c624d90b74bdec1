use Rattle.std.proofs.Common.{ap, sym, subst, Option, length, ◌<◌}
use Rattle.std.specs.Option.{option_map}
use Rattle.std.proofs.lemmas.Option.{slice_get_within}
use Rattle.attr_rules.specs.Rules.{RuleSet, bodies, circular_at}
use Rattle.equation_law.specs.declared.coding.Instance.TheVariants.{Attr as attribute_at}
use Rattle.equation_law.specs.Equations.{OfSite, Site, equation_rises, site_of}
use Rattle.plain_rounds.specs.Settings.{instance_at, naming_at, program_at}
use Rattle.plain_rounds.proofs.Circles.{at_site_rises, found_rises, none_rises}
use Rattle.plain_rounds.proofs.Settings.{named_there}
use Rattle.plain_rounds.proofs.circular.equation_rises.Goals as goal

pub returns-then-is_collection : goal.returns-then-is_collection
returns-then-is_collection c =
    let s = c.args.setting.now in
    none_rises (program_at s) (instance_at s (attribute_at c.args.attr c.args.node c.args.args)) c.is_collection.result (c.is_collection.ensures (naming_at s) (named_there s c.requires)) c.if-is_collection.true

pub returns-in-None : goal.returns-in-None
returns-in-None c =
    let s = c.args.setting.now in
    let p = program_at s in
    at_site_rises p (instance_at s (attribute_at c.args.attr c.args.node c.args.args)) c.is_collection.result _ (c.is_collection.ensures (naming_at s) (named_there s c.requires)) c.if-is_collection.false
    (sym (ap (λ (o : Option Site). equation_rises (circular_at p.rules.attributes) (option_map OfSite o)) c.in-None.ensures))

pub body-requires : goal.body-requires
body-requires c =
    let p = program_at c.args.setting.now in
    let found = c.in-Some.ensures in
    subst (λ (r : RuleSet). c.in-Some.site.equation.0 < length (bodies r)) (sym c.rules-rules.ensures) (slice_get_within (bodies p.rules) c.in-Some.site.equation.0 found.0.body found.2.body)

pub returns-in-Some : goal.returns-in-Some
returns-in-Some c =
    let s = c.args.setting.now in
    let p = program_at s in
    let i = instance_at s (attribute_at c.args.attr c.args.node c.args.args) in
    at_site_rises p i c.is_collection.result c.rises.result (c.is_collection.ensures (naming_at s) (named_there s c.requires)) c.if-is_collection.false
    (found_rises p c.args.attr.0 c.in-Some.site (site_of p i) _ _ c.rises.result c.rules-rules.ensures c.body.ensures c.rises.ensures c.in-Some.ensures)
