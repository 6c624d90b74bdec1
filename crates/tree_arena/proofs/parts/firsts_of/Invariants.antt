-- The first parts of the nodes so far, and that of the next.
use Rattle.std.proofs.Common.{◌≡◌, map}
use Rattle.std.specs.List.{range_with_len}
use Rattle.tree_arena.specs.Kept.{node_of}
use Rattle.tree_arena.specs.Parts.{first_of}
use Rattle.tree_arena.proofs.parts.firsts_of.Given as goal

abbrev pub invariant-loop-node : goal.invariant-loop-node
invariant-loop-node l = record {
  firsts : l.firsts.items ≡ map (first_of (map node_of l.nodes)) (range_with_len 0 l.node-index);
  first : l.first ≡ first_of (map node_of l.nodes) l.node-index;
}
