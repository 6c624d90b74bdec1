use Rattle.std.proofs.Common.{arith, refl}
use Rattle.made_trees.proofs.Higher.{nothing_there, parent_falls, parent_told}
use Rattle.made_trees.proofs.keeping.parent.Goals as goal

pub overflow_sub-result : goal.overflow_sub-result
overflow_sub-result g c = let f = parent_falls (g.K.KeepsMakers.trees c.args.keeper.now) c.requires.trees c.args.node.0 c.args.spot c.in-Some.stand c.requires.spot c.in-Some.ensures.stand c.requires.below in let x = f.0 in let y = f.1 in omega (arith, x, y)

pub returns-in-Some-clause-above : goal.returns-in-Some-clause-above
returns-in-Some-clause-above g c some = parent_told (g.K.KeepsMakers.trees c.args.keeper.now) c.requires.trees c.args.node.0 c.args.spot c.in-Some.stand _ c.requires.spot c.in-Some.ensures.stand c.requires.below refl

pub returns-in-Some-clause-falls : goal.returns-in-Some-clause-falls
returns-in-Some-clause-falls g c = let f = parent_falls (g.K.KeepsMakers.trees c.args.keeper.now) c.requires.trees c.args.node.0 c.args.spot c.in-Some.stand c.requires.spot c.in-Some.ensures.stand c.requires.below in let x = f.0 in let y = f.1 in omega (arith, x, y)

pub returns-in-None-clause-above : goal.returns-in-None-clause-above
returns-in-None-clause-above g c some = nothing_there (g.K.KeepsMakers.trees c.args.keeper.now) c.requires.trees c.args.node.0 c.args.spot c.requires.spot c.in-None.ensures.stand some
