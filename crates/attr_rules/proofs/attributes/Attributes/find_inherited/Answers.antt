use Rattle.std.proofs.Common.{sym, ap, ◌∙◌}
use Rattle.attr_rules.specs.RowsKept.{at_place}
use Rattle.attr_rules.proofs.NamedAttributes.{known_inherited, unknown_inherited}
use Rattle.attr_rules.proofs.attributes.Attributes.find_inherited.Goals as goal

pub returns-in_err-name : goal.returns-in_err-name
returns-in_err-name c =
    let inside = c.self.inside in
    unknown_inherited inside.subclasses inside.names inside.kept.items inside.rows.items inside.inherited.items c.self.invariant c.args.self.now c.self.view_is c.args.name.now c.from_residual.ensures
    (sym c.find.ensures.value ∙ c.in_err-name.was)

pub returns : goal.returns
returns c =
    let inside = c.self.inside in
    known_inherited inside.subclasses inside.names inside.kept.items inside.rows.items inside.inherited.items c.self.invariant c.args.self.now c.self.view_is c.args.name.now c.in_ok-name.name
    (c.at_place.ensures ∙ ap (λ row. at_place row c.in_ok-name.name) c.deref.ensures.value) (sym c.find.ensures.value ∙ c.in_ok-name.was)
