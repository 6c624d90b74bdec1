use Rattle.tree_arena.proofs.AccessorsLaws.{all_hang, child_hangs, hangs_child}
use Rattle.tree_arena.proofs.laws.children_and_parents.Goals as goal

pub returns-clause-child : goal.returns-clause-child
returns-clause-child c = λ nodes n k place m. (child_hangs nodes n k place m, hangs_child nodes n k place m)

pub returns-clause-every : goal.returns-clause-every
returns-clause-every c = all_hang
