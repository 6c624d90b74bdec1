use Rattle.tree_writer.proofs.SourceTrees.{source_count, source_there}
use Rattle.tree_writer.proofs.showing.SourceNodesShowsNodes.count.Goals as goal

pub count-requires : goal.count-requires
count-requires c = source_there c.requires

pub returns-clause-count : goal.returns-clause-count
returns-clause-count c = source_count c.args.k c.count.result c.count.ensures
