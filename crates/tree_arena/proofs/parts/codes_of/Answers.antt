use Rattle.std.proofs.Common.{◌≡◌, ◌++◌, rules, sym, ◌∙◌}
use Rattle.tree_arena.proofs.Seen.{codes_more}
use Rattle.tree_arena.proofs.parts.codes_of.Goals as goal

pub loop-node-preserved : goal.loop-node-preserved
loop-node-preserved c =
    let before = c.loop-node.codes.items in
    let x = c.node-item.result in
    let more : c.extend_from_slice.new.self.items ≡ before ++ c.list.result.now = search rules in
    more ∙ (λ j. c.loop-node.invariant j ++ c.list.ensures j) ∙ sym (codes_more c.args.nodes.now c.loop-node.node-index x c.node-item.is c.loop-node-test.true)
