use Rattle.std.proofs.Common.{sym, subst}
use Rattle.made_trees.specs.Ordered.{IsCreation}
use Rattle.made_trees.proofs.Named.{not_made}
use Rattle.made_trees.proofs.Ordered.{created}
use Rattle.made_trees.proofs.order.creation_of.Goals as goal

pub returns-in_err-attr-clause-creation : goal.returns-in_err-attr-clause-creation
returns-in_err-attr-clause-creation g c = subst (IsCreation (g.K.KeepsMakers.trees c.args.keeper.now) c.args.node.0) (sym c.from_residual.ensures) (not_made (g.K.KeepsMakers.trees c.args.keeper.now) c.maker_of.ensures.trees c.args.node.0 c.in_err-attr.ensures.maker)

pub returns-in-Attr-default-clause-creation : goal.returns-in-Attr-default-clause-creation
returns-in-Attr-default-clause-creation g c =
    let made = c.in-Attr-default in
    created (g.K.KeepsMakers.trees c.args.keeper.now) c.maker_of.ensures.trees c.args.node.0 c.in_ok-attr.field-0.1 c.in_ok-attr.field-0.0 made.attr made.node made.args made.is-0 c.in_ok-attr.ensures.maker
