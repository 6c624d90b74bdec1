-- The codes of the nodes so far.
use Rattle.std.proofs.Common.{◌≡◌, map, take}
use Rattle.tree_arena.specs.Kept.{node_of}
use Rattle.tree_arena.specs.Parts.{codes_of}
use Rattle.tree_arena.proofs.parts.codes_of.Given as goal

abbrev pub invariant-loop-node : goal.invariant-loop-node
invariant-loop-node l = l.codes.items ≡ codes_of (take l.node-index (map node_of l.nodes))
