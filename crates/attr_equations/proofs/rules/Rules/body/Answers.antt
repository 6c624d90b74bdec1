use Rattle.std.proofs.Common.{◌≡◌, ◌+◌, ◌-◌, List, Some, length, map, slice_get, refl, arith, ap, subst, sym, ◌∙◌}
use Rattle.std.specs.List.{flat_map}
use Rattle.std.proofs.lemmas.Option.{slice_get_read}
use Rattle.attr_rules.specs.Rules.{body_at, expressions_in}
use Rattle.attr_equations.specs.declared.rules.KeptEquation.{KeptEquation}
use Rattle.attr_equations.specs.Kept.{rules_in}
use Rattle.attr_equations.specs.KeptContributions.{contribution_in}
use Rattle.attr_equations.proofs.Numbering.{equation_body, how_many, offered_body}
use Rattle.attr_equations.proofs.rules.Rules.body.Goals as goal

pub returns-in-Some : goal.returns-in-Some
returns-in-Some c =
    let r = c.args.self.now in
    let there = c.in-Some.ensures.lookup in
    let q = c.in-Some.equation.now in
    let here : slice_get r.equations.items c.args.e.0 ≡ Some q =
    subst (λ (xs : List KeptEquation). slice_get xs c.args.e.0 ≡ Some q) c.deref.ensures.value (slice_get_read c.deref.result.now (length c.deref.result.now) c.args.e.0 q refl there.3.0 there.1) in
    equation_body r.attributes.superclasses r.attributes.attributes r.equations.items r.contributions.items c.args.e.0 q here

pub offered-requires : goal.offered-requires
offered-requires c =
    let r = c.args.self.now in
    let many = how_many r.attributes.superclasses r.attributes.attributes r.equations.items r.contributions.items in
    omega (arith, c.requires, many, c.len.ensures, c.in-None.ensures.lookup.3, ap length c.deref.ensures.value, ap length c.deref-in-None.ensures.value)

pub returns-in-None : goal.returns-in-None
returns-in-None c =
    let r = c.args.self.now in
    let n = c.args.e.0 - c.len.result in
    let place : c.args.e.0 ≡ length r.equations.items + n = omega (arith, c.len.ensures, c.in-None.ensures.lookup.3, ap length c.deref.ensures.value) in
    ap (body_at (rules_in r)) place ∙ offered_body r.attributes.superclasses r.attributes.attributes r.equations.items r.contributions.items n
    ∙ ap (λ list. slice_get (flat_map expressions_in (map contribution_in list)) n) (sym c.deref-in-None.ensures.value) ∙ c.offered.ensures
