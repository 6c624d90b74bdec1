-- The parts at which the nodes so far hang.
use Rattle.std.proofs.Common.{◌≡◌, map, take}
use Rattle.tree_arena.specs.Kept.{node_of}
use Rattle.tree_arena.specs.Parts.{keys_of}
use Rattle.tree_arena.proofs.parts.keys_of.Given as goal

abbrev pub invariant-loop-n : goal.invariant-loop-n
invariant-loop-n l = l.keys.items ≡ take l.n (keys_of (map node_of l.nodes))
