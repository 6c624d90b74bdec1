-- The nodes from the n-th on have their ends.
use Rattle.std.proofs.Common.{◌≡◌, ◌<◌, ◌≤◌, ℕ, length, get_or, map}
use Rattle.tree_arena.specs.Kept.{node_of}
use Rattle.tree_arena.specs.Nodes.{end_in}
use Rattle.tree_arena.proofs.ends.ends_of.Given as goal

abbrev pub invariant-loop-n : goal.invariant-loop-n
invariant-loop-n l = record {
  count : length l.ends.items ≡ length l.nodes;
  each : (m : ℕ) → l.n ≤ m → m < length l.nodes → get_or l.ends.items m 0 ≡ end_in (map node_of l.nodes) m;
}
