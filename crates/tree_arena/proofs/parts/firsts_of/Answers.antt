use Rattle.std.proofs.Common.{◌≡◌, ◌+◌, suc, [], ◌∷◌, ◌++◌, map, length, rules, sym, ap, ◌∙◌, arith}
use Rattle.std.proofs.lemmas.List.FromFn.{map-range_with_len_more}
use Rattle.tree_arena.specs.Kept.{node_of}
use Rattle.tree_arena.specs.Parts.{first_of}
use Rattle.tree_arena.proofs.Numbered.{first_next, first_none, tokens_found}
use Rattle.tree_arena.proofs.Seen.{codes_within, seen_at}
use Rattle.tree_arena.proofs.parts.firsts_of.Goals as goal

pub loop-node-init : goal.loop-node-init
loop-node-init c = record { firsts = search rules; first = sym (first_none (map node_of c.args.nodes.now)) }

pub overflow_cast-first : goal.overflow_cast-first
overflow_cast-first c =
    omega (arith, codes_within c.args.nodes.now c.loop-node.node-index c.node-item.result c.node-item.is c.loop-node-test.true, ap length c.list.ensures)

pub overflow_add-first : goal.overflow_add-first
overflow_add-first c =
    omega (arith, codes_within c.args.nodes.now c.loop-node.node-index c.node-item.result c.node-item.is c.loop-node-test.true, ap length c.list.ensures, c.loop-node.invariant.first)

pub loop-node-preserved : goal.loop-node-preserved
loop-node-preserved c =
    let seen = map node_of c.args.nodes.now in
    let i = c.loop-node.node-index in
    let x = c.node-item.result in
    let more : c.push.new.self.items ≡ c.loop-node.firsts.items ++ c.loop-node.first ∷ [] = search rules in
    let next : suc i ≡ i + 1 = omega arith in
    record {
      firsts = more ∙ (λ j. c.loop-node.invariant.firsts j ++ c.loop-node.invariant.first j ∷ []) ∙ sym (map-range_with_len_more (first_of seen) 0 i i (omega arith));
      first =
          let tokens = tokens_found seen i (node_of x) (seen_at c.args.nodes.now i x c.node-item.is c.loop-node-test.true) in
          omega (arith, c.loop-node.invariant.first, ap length c.list.ensures, ap length tokens, first_next seen i, ap (first_of seen) next);
    }
