use Rattle.std.proofs.Common.{arith, sym}
use Rattle.tree_arena.proofs.Answered.{group_within, hanging_none, hanging_read, hanging_read_few, part_fits, parts_are}
use Rattle.tree_arena.proofs.tree.Tree.hanging.Goals as goal

pub overflow_add-node : goal.overflow_add-node
overflow_add-node c =
    let parts = parts_are c.self.view_is c.self.invariant c.requires c.index-node.ensures in
    let there = c.if-k-node.true in
    omega (arith, part_fits c.self.view_is c.self.invariant c.requires c.index-node.ensures c.args.k (omega arith))

pub group-requires : goal.group-requires
group-requires c = group_within c.self.view_is c.self.invariant c.requires c.index-node.ensures c.args.k c.if-k-node.true

pub returns-then-k-node-clause-are : goal.returns-then-k-node-clause-are
returns-then-k-node-clause-are c =
    hanging_read c.self.view_is c.self.invariant c.requires c.index-node.ensures c.args.k c.if-k-node.true c.group.ensures

pub returns-then-k-node-clause-few : goal.returns-then-k-node-clause-few
returns-then-k-node-clause-few c =
    hanging_read_few c.self.view_is c.self.invariant c.requires c.index-node.ensures c.args.k c.if-k-node.true c.group.ensures

pub returns-else-k-node-clause-are : goal.returns-else-k-node-clause-are
returns-else-k-node-clause-are c =
    sym (hanging_none c.self.view_is c.self.invariant c.requires c.index-node.ensures c.args.k c.if-k-node.false)
