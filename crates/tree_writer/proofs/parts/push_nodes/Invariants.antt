use Rattle.std.proofs.Common.{reverse}
use Rattle.tree_arena.specs.Terms.{Forest}
use Rattle.tree_writer.specs.Showing.{hung_at}
use Rattle.tree_writer.proofs.Listing.{PutsFrom}
use Rattle.tree_writer.proofs.parts.push_nodes.Given as goal

-- the nodes from the i-th on are on the stack
abbrev pub invariant-places : goal.invariant-places
invariant-places g l = record {
  kept : g.N.ShowsNodes.keeps l.fn.nodes l.nodes;
  put : (tree : Forest) → g.N.ShowsNodes.shows l.fn.nodes l.n tree
      → PutsFrom (g.N.ShowsNodes.shows l.nodes) (hung_at tree l.k) l.i (reverse l.initial.stack.items) (reverse l.stack.items);
}
