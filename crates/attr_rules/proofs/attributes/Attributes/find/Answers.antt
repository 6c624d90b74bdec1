use Rattle.std.proofs.Common.{sym, ap, ◌∙◌}
use Rattle.attr_rules.specs.RowsKept.{at_row}
use Rattle.attr_rules.proofs.NamedAttributes.{known_name, unknown_name}
use Rattle.attr_rules.proofs.attributes.Attributes.find.Goals as goal

pub returns-in_err-name-clause-number : goal.returns-in_err-name-clause-number
returns-in_err-name-clause-number c =
    let inside = c.self.inside in
    unknown_name inside.subclasses inside.names inside.kept.items inside.rows.items inside.inherited.items c.self.invariant c.args.class c.args.name.now c.args.self.now c.self.view_is
    c.from_residual.ensures (sym c.find.ensures.value ∙ c.in_err-name.was)

pub returns-clause-number : goal.returns-clause-number
returns-clause-number c =
    let inside = c.self.inside in
    known_name inside.subclasses inside.names inside.kept.items inside.rows.items inside.inherited.items c.self.invariant c.args.class c.args.name.now c.args.self.now c.self.view_is c.in_ok-name.name
    (c.at_row.ensures ∙ ap (λ rows. at_row rows c.args.class.0 c.in_ok-name.name) c.deref.ensures.value) (sym c.find.ensures.value ∙ c.in_ok-name.was) c.requires
