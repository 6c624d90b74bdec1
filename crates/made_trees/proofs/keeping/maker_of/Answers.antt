use Rattle.std.proofs.Common.{◌≡◌, Some, sym, subst}
use Rattle.made_trees.specs.Made.{maker_at}
use Rattle.made_trees.specs.Makers.{IsMakerOf, Trees}
use Rattle.made_trees.proofs.Nodes.{maker_told, no_maker}
use Rattle.made_trees.proofs.keeping.maker_of.Goals as goal

pub returns-in_err-spot-clause-maker : goal.returns-in_err-spot-clause-maker
returns-in_err-spot-clause-maker g c =
    let T = g.K.KeepsMakers.trees c.args.keeper.now in
    subst (IsMakerOf T c.args.node.0) (sym c.from_residual.ensures) (no_maker T c.spot_among.ensures.trees c.args.node.0 c.in_err-spot.ensures.spot)

pub returns-clause-maker : goal.returns-clause-maker
returns-clause-maker g c =
    let T = g.K.KeepsMakers.trees c.args.keeper.now in
    let same = g.met.K.KeepsMakers.still c.args.keeper.now c.spot_among.new.keeper c.spot_among.ensures.kept in
    maker_told T c.spot_among.ensures.trees c.args.node.0 c.in_ok-spot.spot c.instance-instance.result c.in_ok-spot.ensures.spot
    (subst (λ (x : Trees). maker_at x.makers c.in_ok-spot.spot.tree ≡ Some c.instance-instance.result) same c.instance-instance.ensures.instance)
