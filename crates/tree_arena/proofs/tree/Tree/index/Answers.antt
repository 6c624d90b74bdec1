use Rattle.tree_arena.proofs.Answered.{index_is}
use Rattle.tree_arena.proofs.tree.Tree.index.Goals as goal

pub returns : goal.returns
returns c = index_is c.self.view_is c.self.invariant c.requires c.index.ensures
