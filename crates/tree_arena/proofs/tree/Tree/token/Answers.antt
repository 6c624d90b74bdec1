use Rattle.tree_arena.proofs.Answered.{part_fits, part_within, token_read}
use Rattle.std.proofs.Common.{arith}
use Rattle.tree_arena.proofs.tree.Tree.token.Goals as goal

pub overflow_add-node : goal.overflow_add-node
overflow_add-node c =
    omega (arith, part_fits c.self.view_is c.self.invariant c.requires.node c.index-node.ensures c.args.k c.requires.component)

pub index-requires : goal.index-requires
index-requires c =
    omega (arith, part_within c.self.view_is c.self.invariant c.requires.node c.index-node.ensures c.args.k c.requires.component, c.self.inside.codes.ok.0)

pub returns : goal.returns
returns c =
    token_read c.self.view_is c.self.invariant c.requires.node c.index-node.ensures c.args.k c.index.result.now c.requires.component c.index.ensures
