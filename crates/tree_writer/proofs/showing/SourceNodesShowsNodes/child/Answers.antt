use Rattle.std.proofs.Common.{sym, ◌∙◌}
use Rattle.tree_writer.proofs.SourceTrees.{source_child, source_child_there, source_there}
use Rattle.tree_writer.proofs.showing.SourceNodesShowsNodes.child.Goals as goal

pub child-requires : goal.child-requires
child-requires c = source_there (c.requires.0, c.requires.1)

pub unreachable-requires : goal.unreachable-requires
unreachable-requires c = source_child_there c.args.k c.args.i c.requires (sym c.child.ensures ∙ c.in_default.is)

pub returns-clause-child : goal.returns-clause-child
returns-clause-child c = source_child c.args.k c.args.i c.in-Some.child (sym c.in-Some.ensures)
