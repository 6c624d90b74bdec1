use Rattle.tree_arena.proofs.Answered.{end_is}
use Rattle.tree_arena.proofs.tree.Tree.end.Goals as goal

pub returns : goal.returns
returns c = end_is c.self.view_is c.self.invariant c.requires c.index.ensures
