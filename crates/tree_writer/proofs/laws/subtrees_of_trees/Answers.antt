use Rattle.tree_writer.proofs.SourceTrees.{source_node, term_root}
use Rattle.tree_writer.proofs.Subtrees.{term_grown}
use Rattle.tree_writer.proofs.laws.subtrees_of_trees.Goals as goal

pub returns : goal.returns
returns c = record {
  root = λ g texts term grown. (term_root grown).at;
  grown = λ g texts term n sub grown e. term_grown grown n sub e;
  nodes = λ g texts n nodes tree within. source_node tree n within;
}
