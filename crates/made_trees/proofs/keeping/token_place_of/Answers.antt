use Rattle.std.proofs.Common.{None, Some, arith, sym, subst}
use Rattle.made_trees.specs.Makers.{IsStandAt, Trees}
use Rattle.made_trees.proofs.Nodes.{few_there, no_maker, token_told}
use Rattle.made_trees.proofs.keeping.token_place_of.Goals as goal

pub returns-in_err-spot-clause-token : goal.returns-in_err-spot-clause-token
returns-in_err-spot-clause-token g c a q r xs e =
    let T = g.K.KeepsMakers.trees c.args.keeper.now in
    absurd (no_maker T c.spot_among.ensures.trees c.args.node.0 c.in_err-spot.ensures.spot a q r xs e)

pub returns-in_err-stand-clause-token : goal.returns-in_err-stand-clause-token
returns-in_err-stand-clause-token g c =
    let T = g.K.KeepsMakers.trees c.args.keeper.now in
    let same = g.met.K.KeepsMakers.still c.args.keeper.now c.spot_among.new.keeper c.spot_among.ensures.kept in
    token_told T c.spot_among.ensures.trees c.args.node.0 c.args.component c.in_ok-spot.spot None c.from_residual-in_err-stand.result c.in_ok-spot.ensures.spot
    (subst (λ (x : Trees). IsStandAt x c.in_ok-spot.spot None) same c.in_err-stand.ensures.stand) (sym c.from_residual-in_err-stand.ensures)

pub own_token-requires : goal.own_token-requires
own_token-requires g c =
    let T = g.K.KeepsMakers.trees c.args.keeper.now in
    let same = g.met.K.KeepsMakers.still c.args.keeper.now c.spot_among.new.keeper c.spot_among.ensures.kept in
    let few = (few_there T c.spot_among.ensures.trees c.args.node.0 c.in_ok-spot.spot c.in_ok-stand.stand c.in_ok-spot.ensures.spot (subst (λ (x : Trees). IsStandAt x c.in_ok-spot.spot (Some c.in_ok-stand.stand)) same c.in_ok-stand.ensures.stand)).1 in
    omega (arith, few)

pub returns-clause-token : goal.returns-clause-token
returns-clause-token g c =
    let T = g.K.KeepsMakers.trees c.args.keeper.now in
    let same = g.met.K.KeepsMakers.still c.args.keeper.now c.spot_among.new.keeper c.spot_among.ensures.kept in
    token_told T c.spot_among.ensures.trees c.args.node.0 c.args.component c.in_ok-spot.spot (Some c.in_ok-stand.stand) c.own_token.result c.in_ok-spot.ensures.spot
    (subst (λ (x : Trees). IsStandAt x c.in_ok-spot.spot (Some c.in_ok-stand.stand)) same c.in_ok-stand.ensures.stand) (sym c.own_token.ensures)
