use Rattle.std.proofs.Common.{◌≡◌}
use Rattle.equation_law.specs.Reading.{reference_cmp}
use Rattle.made_trees.specs.Makers.{stands_for}
use Rattle.made_trees.proofs.order.order_of.Given as goal

abbrev pub invariant-loop-order : goal.invariant-loop-order
invariant-loop-order g l = (g.K.KeepsMakers.keeps l.fn.keeper l.keeper) × (reference_cmp (stands_for (g.K.KeepsMakers.trees l.keeper) l.left.0) (stands_for (g.K.KeepsMakers.trees l.keeper) l.right.0) ≡ reference_cmp (stands_for (g.K.KeepsMakers.trees l.fn.keeper) l.fn.a.0) (stands_for (g.K.KeepsMakers.trees l.fn.keeper) l.fn.b.0))

abbrev pub decreases-loop-order : goal.decreases-loop-order
decreases-loop-order g l = l.left.0
