use Rattle.std.proofs.Common.{rules}
use Rattle.code_sets.specs.Merges.{keeps}
use Rattle.code_sets.proofs.Merging.{fewer, keeps_none, merges_all, merges_next, merges_none}
use Rattle.code_sets.proofs.merges.merge.Goals as goal

pub loop-number-init : goal.loop-number-init
loop-number-init c = merges_none (keeps c.args.operation) c.args.ours.now c.args.theirs.now c.new-words.result.items c.new-words.ensures.items c.requires.ours c.requires.theirs

pub loop-number-smaller : goal.loop-number-smaller
loop-number-smaller c = fewer c.loop-number.our_words.now c.loop-number.their_words.now c.part-our_bits.result.1.now c.part-their_bits.result.1.now c.in-Some.number _ _ c.in-Some.ensures.some c.part-our_bits.ensures c.part-their_bits.ensures

pub loop-number-preserved : goal.loop-number-preserved
loop-number-preserved c =
    merges_next (keeps c.args.operation) (keeps_none c.args.operation) _ _ c.loop-number.our_words.now c.loop-number.their_words.now c.loop-number.words.items c.part-our_bits.result.1.now c.part-their_bits.result.1.now c.push_word.new.words.items
    c.in-Some.number c.part-our_bits.result.0 c.part-their_bits.result.0 c.bits.result (search rules) c.loop-number.invariant c.in-Some.ensures.some c.part-our_bits.ensures c.part-their_bits.ensures c.bits.ensures c.in_ok-push_word.ensures

pub returns-clause-made : goal.returns-clause-made
returns-clause-made c = merges_all (keeps c.args.operation) (keeps_none c.args.operation) _ _ c.loop-number.our_words.now c.loop-number.their_words.now c.loop-number.words.items c.in_default.ensures.none.0 c.in_default.ensures.none.1 c.loop-number.invariant
