use Rattle.std.proofs.Common.{◌≡◌, ◌+◌, [], ◌∷◌, ◌++◌, None, Some, map, length, get_or, take, rules, sym, ap, ◌∙◌, arith}
use Rattle.std.proofs.lemmas.List.{take_more}
use Rattle.std.proofs.lemmas.Option.{get_or_from_slice_get}
use Rattle.tree_arena.specs.Kept.{node_of}
use Rattle.tree_arena.specs.Parts.{first_of, hangs_at, keys_of}
use Rattle.tree_arena.proofs.Hanging.{length-keys_of}
use Rattle.tree_arena.proofs.Seen.{first_at, hung_at, key_at, length-firsts_of, length-seen, part_at, seen_at}
use Rattle.tree_arena.proofs.parts.keys_of.Goals as goal

pub bounds-firsts-node : goal.bounds-firsts-node
bounds-firsts-node c =
    let items = c.args.nodes.now in
    let x = c.index-nodes-n.result in
    let hung = hung_at (map node_of items) c.requires.tree c.loop-n.n (node_of x) c.loop-n.auto.n (seen_at items c.loop-n.n x c.index-nodes-n.is c.loop-n-test.true) in
    let before = hung.before in
    let within = c.loop-n-test.true in
    omega (arith, ap length c.requires.firsts, length-firsts_of (map node_of items), length-seen items)

pub overflow_add-part : goal.overflow_add-part
overflow_add-part c =
    let items = c.args.nodes.now in
    let seen = map node_of items in
    let x = c.index-nodes-n.result in
    let there = seen_at items c.loop-n.n x c.index-nodes-n.is c.loop-n-test.true in
    let before = (hung_at seen c.requires.tree c.loop-n.n (node_of x) c.loop-n.auto.n there).before in
    let within = c.loop-n-test.true in
    let first = ap (λ xs. get_or xs x.parent 0) c.requires.firsts ∙ first_at seen x.parent 0 (omega (arith, length-seen items)) in
    omega (arith, part_at seen c.requires.tree c.loop-n.n (node_of x) c.loop-n.auto.n there, first, c.requires.few)

pub loop-n-preserved : goal.loop-n-preserved
loop-n-preserved c =
    let items = c.args.nodes.now in
    let seen = map node_of items in
    let n = c.loop-n.n in
    let x = c.index-nodes-n.result in
    let there = seen_at items n x c.index-nodes-n.is c.loop-n-test.true in
    let before = (hung_at seen c.requires.tree n (node_of x) c.loop-n.auto.n there).before in
    let within = c.loop-n-test.true in
    let first : get_or c.args.firsts.now x.parent 0 ≡ first_of seen x.parent = ap (λ xs. get_or xs x.parent 0) c.requires.firsts ∙ first_at seen x.parent 0 (omega (arith, length-seen items)) in
    let key = get_or_from_slice_get (keys_of seen) n (hangs_at seen (node_of x)) None (key_at seen n (node_of x) c.loop-n.auto.n there) in
    let more : c.push.new.self.items ≡ c.loop-n.keys.items ++ Some (get_or c.args.firsts.now x.parent 0 + x.component) ∷ [] = search rules in
    more ∙ (λ j. c.loop-n.invariant j ++ Some (first j + x.component) ∷ []) ∙ ap (λ k. take n (keys_of seen) ++ k ∷ []) (sym key)
    ∙ sym (take_more (keys_of seen) n None (omega (arith, length-keys_of seen, length-seen items)))
