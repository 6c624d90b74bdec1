use Rattle.tree_arena.proofs.AccessorsLaws.{term_node, term_past, term_root}
use Rattle.tree_arena.proofs.AccessorsPreorder.{length_nodes}
use Rattle.tree_arena.proofs.laws.accessors_of_terms.Goals as goal

pub returns-clause-length : goal.returns-clause-length
returns-clause-length c = λ term. length_nodes term 0 0

pub returns-clause-node : goal.returns-clause-node
returns-clause-node c = term_node

pub returns-clause-root : goal.returns-clause-root
returns-clause-root c = term_root

pub returns-clause-past : goal.returns-clause-past
returns-clause-past c = term_past
