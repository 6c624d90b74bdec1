use Rattle.tree_writer.proofs.SourceTrees.{source_class, source_there}
use Rattle.tree_writer.proofs.showing.SourceNodesShowsNodes.class_of.Goals as goal

pub class_of-requires : goal.class_of-requires
class_of-requires c = source_there c.requires

pub returns-clause-class : goal.returns-clause-class
returns-clause-class c = source_class c.class_of.result c.class_of.ensures
