use Rattle.tree_reader.proofs.OneTree.{one_broken, one_said_tree, said_or_broken}
use Rattle.tree_reader.proofs.laws.one_tree.Goals as goal

pub returns-clause-tree : goal.returns-clause-tree
returns-clause-tree c = one_said_tree

pub returns-clause-broken : goal.returns-clause-broken
returns-clause-broken c = one_broken

pub returns-clause-either : goal.returns-clause-either
returns-clause-either c = said_or_broken
