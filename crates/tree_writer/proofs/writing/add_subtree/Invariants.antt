use Rattle.std.proofs.Common.{◌++◌, ◌-◌, ◌^◌, length, reverse}
use Rattle.tree_arena.specs.Terms.{Forest}
use Rattle.tree_writer.specs.Canonical.{tree_text}
use Rattle.tree_writer.specs.Parts.{IsHalfway}
use Rattle.tree_writer.specs.Showing.{IsSubtree}
use Rattle.tree_writer.proofs.writing.add_subtree.Given as goal

-- of each tree that the node shows, so much is written and so much is left
abbrev pub invariant-parts : goal.invariant-parts
invariant-parts g l = record {
  kept : g.N.ShowsNodes.keeps l.fn.nodes l.nodes;
  half : (tree : Forest) → g.N.ShowsNodes.shows l.fn.nodes l.n tree → IsSubtree l.grammar (length l.pool) tree
      → IsHalfway l.grammar l.pool (g.N.ShowsNodes.shows l.nodes) l.text.items (reverse l.stack.items) (l.fn.text.items ++ tree_text l.grammar l.pool tree);
}

-- each turn writes something, and there is an end to how much a text holds
abbrev pub decreases-parts : goal.decreases-parts
decreases-parts g l = 2 ^ 64 - length l.text.items
