use Rattle.std.proofs.Common.{◌≡◌, List, Some, length, refl, ap, subst, ◌∙◌, arith}
use Rattle.std.proofs.lemmas.Option.{slice_get_read}
use Rattle.attr_rules.specs.declared.attributes.KeptAttr.{KeptAttr}
use Rattle.std.specs.List.{slice_get}
use Rattle.attr_rules.specs.RowsKept.{at_place}
use Rattle.attr_rules.proofs.NamedAttributes.{first_known, first_unknown}
use Rattle.attr_rules.proofs.attributes.Attributes.first_of_name.Goals as goal

pub returns-in_err-attribute : goal.returns-in_err-attribute
returns-in_err-attribute c =
    let inside = c.self.inside in
    first_unknown inside.subclasses inside.names inside.kept.items inside.rows.items inside.inherited.items c.self.invariant c.args.self.now c.self.view_is c.args.a.0 c.from_residual.ensures
    (omega (arith, c.in_err-attribute.ensures.lookup.3, ap length c.deref.ensures.value))

pub returns : goal.returns
returns c =
    let inside = c.self.inside in
    let there = c.in_ok-attribute.ensures.lookup in
    let a = c.in_ok-attribute.attribute.now in
    let here : slice_get inside.kept.items c.args.a.0 ≡ Some a =
    subst (λ (xs : List KeptAttr). slice_get xs c.args.a.0 ≡ Some a) c.deref.ensures.value (slice_get_read c.deref.result.now (length c.deref.result.now) c.args.a.0 a refl there.3.0 there.1) in
    let is : c.at_place.result ≡ at_place inside.inherited.items a.name = c.at_place.ensures ∙ ap (λ row. at_place row a.name) c.deref-2.ensures.value in
    first_known inside.subclasses inside.names inside.kept.items inside.rows.items inside.inherited.items c.self.invariant c.args.self.now c.self.view_is c.args.a.0 a here is
