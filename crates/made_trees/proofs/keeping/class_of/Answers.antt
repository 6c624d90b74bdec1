use Rattle.std.proofs.Common.{None, Some, sym, subst, ◌∙◌}
use Rattle.made_trees.specs.Makers.{IsStandAt, Trees}
use Rattle.made_trees.proofs.Nodes.{class_told, none_told}
use Rattle.made_trees.proofs.keeping.class_of.Goals as goal

pub returns-in_err-spot-clause-class : goal.returns-in_err-spot-clause-class
returns-in_err-spot-clause-class g c high =
    let T = g.K.KeepsMakers.trees c.args.keeper.now in
    none_told T c.spot_among.ensures.trees c.args.node.0 high c.in_err-spot.ensures.spot ∙ sym c.from_residual.ensures

pub returns-in_err-stand-clause-class : goal.returns-in_err-stand-clause-class
returns-in_err-stand-clause-class g c high =
    let T = g.K.KeepsMakers.trees c.args.keeper.now in
    let same = g.met.K.KeepsMakers.still c.args.keeper.now c.spot_among.new.keeper c.spot_among.ensures.kept in
    class_told T c.spot_among.ensures.trees c.args.node.0 c.in_ok-spot.spot None c.in_ok-spot.ensures.spot (subst (λ (x : Trees). IsStandAt x c.in_ok-spot.spot None) same c.in_err-stand.ensures.stand) ∙ sym c.from_residual-in_err-stand.ensures

pub returns-clause-class : goal.returns-clause-class
returns-clause-class g c high =
    let T = g.K.KeepsMakers.trees c.args.keeper.now in
    let same = g.met.K.KeepsMakers.still c.args.keeper.now c.spot_among.new.keeper c.spot_among.ensures.kept in
    class_told T c.spot_among.ensures.trees c.args.node.0 c.in_ok-spot.spot (Some c.in_ok-stand.stand) c.in_ok-spot.ensures.spot (subst (λ (x : Trees). IsStandAt x c.in_ok-spot.spot (Some c.in_ok-stand.stand)) same c.in_ok-stand.ensures.stand)
