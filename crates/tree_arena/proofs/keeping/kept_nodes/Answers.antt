use Rattle.std.proofs.Common.{◌≡◌, ◌<◌, [], ◌∷◌, ◌++◌, map, length, get_or, take, rules, sym, ap, ◌∙◌, arith}
use Rattle.tree_arena.specs.declared.tree.KeptNode.{KeptNode}
use Rattle.tree_arena.specs.Arena.{keep, kept_from}
use Rattle.tree_arena.specs.Kept.{node_of}
use Rattle.tree_arena.specs.Parts.{keys_of}
use Rattle.tree_arena.proofs.Arena.{kept_push}
use Rattle.tree_arena.proofs.Hanging.{length-keys_of, length-places_of, place_at}
use Rattle.tree_arena.proofs.Seen.{codes_within, end_at, first_at, length-ends_of, length-firsts_of, length-seen, length-take_seen, seen_at, seen_more}
use Rattle.tree_arena.proofs.keeping.kept_nodes.Goals as goal

pub bounds-places-n : goal.bounds-places-n
bounds-places-n c =
    let items = c.args.nodes.now in
    let within = c.loop-n-test.true in
    omega (arith, ap length c.requires.places, length-places_of (keys_of (map node_of items)), length-keys_of (map node_of items), length-seen items)

pub bounds-ends-n : goal.bounds-ends-n
bounds-ends-n c =
    let items = c.args.nodes.now in
    let within = c.loop-n-test.true in
    omega (arith, ap length c.requires.ends, length-ends_of (map node_of items), length-seen items)

pub bounds-firsts-n : goal.bounds-firsts-n
bounds-firsts-n c =
    let items = c.args.nodes.now in
    let within = c.loop-n-test.true in
    omega (arith, ap length c.requires.firsts, length-firsts_of (map node_of items), length-seen items)

pub overflow_cast-one : goal.overflow_cast-one
overflow_cast-one c =
    omega (arith, codes_within c.args.nodes.now c.loop-n.n c.index-nodes-n.result c.index-nodes-n.is c.loop-n-test.true, ap length c.list.ensures, c.requires.few)

pub loop-n-preserved : goal.loop-n-preserved
loop-n-preserved c =
    let items = c.args.nodes.now in
    let seen = map node_of items in
    let n = c.loop-n.n in
    let x = c.index-nodes-n.result in
    let there = seen_at items n x c.index-nodes-n.is c.loop-n-test.true in
    let within : n < length seen = let lt = c.loop-n-test.true in omega (arith, length-seen items) in
    let index = ap (λ xs. get_or xs n 0) c.requires.places ∙ place_at seen c.requires.tree n (node_of x) 0 there in
    let end = ap (λ xs. get_or xs n 0) c.requires.ends ∙ end_at seen n 0 within in
    let first = ap (λ xs. get_or xs n 0) c.requires.firsts ∙ first_at seen n 0 within in
    let one : KeptNode = record {
      class = x.class;
      parent = x.parent;
      component = x.component;
      index = get_or c.args.places.now n 0;
      end = get_or c.args.ends.now n 0;
      first = get_or c.args.firsts.now n 0;
      parts = length c.list.result.now;
    } in
    let same : one ≡ keep seen n (node_of x) = (λ j. record { class = x.class; parent = x.parent; component = x.component; index = index j; end = end j; first = first j; parts = length (c.list.ensures j) }) in
    let more : c.push.new.self.items ≡ c.loop-n.kept.items ++ one ∷ [] = search rules in
    more ∙ (λ j. c.loop-n.invariant j ++ same j ∷ []) ∙ sym (kept_push seen 0 n (take n seen) (node_of x) (length-take_seen items n c.loop-n-test.true))
    ∙ ap (kept_from seen 0) (sym (seen_more items n x c.index-nodes-n.is c.loop-n-test.true))
