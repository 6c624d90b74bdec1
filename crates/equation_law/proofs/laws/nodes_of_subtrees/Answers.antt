use Rattle.equation_law.proofs.Above.{program_tree}
use Rattle.equation_law.proofs.Subtree.{subtree_nodes, subtree_numbers}
use Rattle.equation_law.proofs.laws.nodes_of_subtrees.Goals as goal

pub returns-clause-numbers : goal.returns-clause-numbers
returns-clause-numbers c = λ p good. subtree_numbers p.tree (program_tree p good)

pub returns-clause-nodes : goal.returns-clause-nodes
returns-clause-nodes c = λ p good. subtree_nodes p.tree (program_tree p good)
