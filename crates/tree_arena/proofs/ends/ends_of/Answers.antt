use Rattle.std.proofs.Common.{length, map, arith, ◌∙◌, sym}
use Rattle.std.proofs.lemmas.List.FromFn.{fill_by_all}
use Rattle.tree_arena.specs.Kept.{node_of}
use Rattle.tree_arena.specs.Nodes.{end_in}
use Rattle.tree_arena.proofs.Seen.{length-seen}
use Rattle.tree_arena.proofs.ends.ends_of.Goals as goal

pub returns : goal.returns
returns c =
    let seen = map node_of c.args.nodes.now in
    let none = c.loop-n-test.false in
    let many = length-seen c.args.nodes.now in
    fill_by_all (end_in seen) c.loop-n.ends.items (length seen) 0 (c.loop-n.invariant.count ∙ sym many) (λ k l. c.loop-n.invariant.each k (omega arith) (omega arith))
