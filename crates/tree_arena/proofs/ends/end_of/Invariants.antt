-- The rest of the subtree ends where it does.
use Rattle.std.proofs.Common.{◌-◌, length, map}
use Rattle.tree_arena.specs.Kept.{node_of}
use Rattle.tree_arena.proofs.Subtrees.{EndsFrom}
use Rattle.tree_arena.proofs.ends.end_of.Given as goal

abbrev pub invariant-loop-end : goal.invariant-loop-end
invariant-loop-end l = EndsFrom (map node_of l.nodes) l.n l.end

abbrev pub decreases-loop-end : goal.decreases-loop-end
decreases-loop-end l = length l.nodes - l.end
