use Rattle.tree_arena.proofs.Answered.{parts_are}
use Rattle.tree_arena.proofs.tree.Tree.components.Goals as goal

pub returns : goal.returns
returns c = parts_are c.self.view_is c.self.invariant c.requires c.index.ensures
