-- What is kept of the nodes so far.
use Rattle.std.proofs.Common.{◌≡◌, map, take}
use Rattle.tree_arena.specs.Arena.{kept_from}
use Rattle.tree_arena.specs.Kept.{node_of}
use Rattle.tree_arena.proofs.keeping.kept_nodes.Given as goal

abbrev pub invariant-loop-n : goal.invariant-loop-n
invariant-loop-n l = l.kept.items ≡ kept_from (map node_of l.nodes) 0 (take l.n (map node_of l.nodes))
