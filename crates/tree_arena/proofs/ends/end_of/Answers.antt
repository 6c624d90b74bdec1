use Rattle.std.proofs.Common.{◌<◌, ◌≤◌, ap, arith, map}
use Rattle.tree_arena.specs.declared.tree.FirstNode.{FirstNode}
use Rattle.tree_arena.specs.Kept.{node_of}
use Rattle.tree_arena.proofs.Seen.{length-seen, seen_at}
use Rattle.tree_arena.proofs.Subtrees.{ends_here, ends_jump, ends_past}
use Rattle.tree_arena.proofs.ends.end_of.Goals as goal

pub loop-end-preserved : goal.loop-end-preserved
loop-end-preserved c =
    let items = c.args.nodes.now in
    let x = c.index-nodes-end.result in
    let end = c.loop-end.end in
    let parent = ap (λ (y : FirstNode). y.parent) c.index-nodes-end.is in
    let test = c.if-n-nodes.true in
    let under : c.args.n ≤ x.parent = omega arith in
    let there = seen_at items end x c.index-nodes-end.is c.loop-end-test.true in
    ends_jump (map node_of items) c.args.n end (node_of x) c.loop-end.invariant there (omega (arith, length-seen items, c.loop-end-test.true)) under (c.requires.behind end c.loop-end.invariant.above c.loop-end-test.true)

pub returns-else-n-nodes-clause-end : goal.returns-else-n-nodes-clause-end
returns-else-n-nodes-clause-end c =
    let items = c.args.nodes.now in
    let x = c.index-nodes-end.result in
    let parent = ap (λ (y : FirstNode). y.parent) c.index-nodes-end.is in
    let test = c.if-n-nodes.false in
    let over : x.parent < c.args.n = omega arith in
    ends_here (map node_of items) c.args.n c.loop-end.end (node_of x) c.loop-end.invariant (seen_at items c.loop-end.end x c.index-nodes-end.is c.loop-end-test.true) over

pub returns-after-loop-end-clause-end : goal.returns-after-loop-end-clause-end
returns-after-loop-end-clause-end c =
    let items = c.args.nodes.now in
    let past = c.loop-end-test.false in
    ends_past (map node_of items) c.args.n c.loop-end.end c.loop-end.invariant (omega (arith, length-seen items))
