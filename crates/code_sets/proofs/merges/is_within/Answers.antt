use Rattle.std.proofs.Common.{rules}
use Rattle.code_sets.proofs.Merging.{beyond, fewer, withins_next}
use Rattle.code_sets.proofs.merges.is_within.Goals as goal

pub loop-number-smaller : goal.loop-number-smaller
loop-number-smaller c = fewer c.loop-number.our_words.now c.loop-number.their_words.now c.part-our_bits.result.1.now c.part-their_bits.result.1.now c.in-Some.number _ _ c.in-Some.ensures.some c.part-our_bits.ensures c.part-their_bits.ensures

pub loop-number-preserved : goal.loop-number-preserved
loop-number-preserved c =
    withins_next _ _ c.loop-number.our_words.now c.loop-number.their_words.now c.part-our_bits.result.1.now c.part-their_bits.result.1.now c.in-Some.number c.part-our_bits.result.0 c.part-their_bits.result.0
    (search rules) c.loop-number.invariant c.part-our_bits.ensures c.part-their_bits.ensures c.if-our_bits-their_bits-ne0.false

pub returns-then-our_bits-their_bits-ne0-clause-beyond : goal.returns-then-our_bits-their_bits-ne0-clause-beyond
returns-then-our_bits-their_bits-ne0-clause-beyond c e =
    beyond _ _ c.loop-number.our_words.now c.loop-number.their_words.now c.part-our_bits.result.1.now c.part-their_bits.result.1.now c.in-Some.number c.part-our_bits.result.0 c.part-their_bits.result.0
    (search rules) (search rules) c.loop-number.invariant c.part-our_bits.ensures c.part-their_bits.ensures c.if-our_bits-their_bits-ne0.true
