use Rattle.std.proofs.Common.{subst}
use Rattle.made_trees.specs.Makers.{IsOwnerOf, Trees}
use Rattle.made_trees.proofs.Higher.{none_above, owner_told}
use Rattle.made_trees.proofs.keeping.up_of.Goals as goal

pub returns-in-None-clause-above : goal.returns-in-None-clause-above
returns-in-None-clause-above g c high some =
    let T = g.K.KeepsMakers.trees c.args.keeper.now in
    none_above T c.spot_among.ensures.trees c.args.node.0 high c.in-None.ensures.spot some

pub returns-in-Some-clause-above : goal.returns-in-Some-clause-above
returns-in-Some-clause-above g c high some =
    let T = g.K.KeepsMakers.trees c.args.keeper.now in
    let same = g.met.K.KeepsMakers.still c.args.keeper.now c.spot_among.new.keeper c.spot_among.ensures.kept in
    (owner_told T c.spot_among.ensures.trees c.args.node.0 c.in-Some.spot c.owner.result c.in-Some.ensures.spot c.if-spot-eq0.true (subst (λ (x : Trees). IsOwnerOf x c.in-Some.spot.tree c.owner.result) same c.owner.ensures.owner)).0

pub returns-in-Some-clause-falls : goal.returns-in-Some-clause-falls
returns-in-Some-clause-falls g c high =
    let T = g.K.KeepsMakers.trees c.args.keeper.now in
    let same = g.met.K.KeepsMakers.still c.args.keeper.now c.spot_among.new.keeper c.spot_among.ensures.kept in
    (owner_told T c.spot_among.ensures.trees c.args.node.0 c.in-Some.spot c.owner.result c.in-Some.ensures.spot c.if-spot-eq0.true (subst (λ (x : Trees). IsOwnerOf x c.in-Some.spot.tree c.owner.result) same c.owner.ensures.owner)).1
