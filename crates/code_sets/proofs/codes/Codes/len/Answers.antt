use Rattle.std.proofs.Common.{ℕ, ◌+◌, ◌<◌, ◌≤◌, ◌^◌, List, get_or, length, count_ones, arith, rules, subst}
use Rattle.code_sets.specs.Members.{Rises}
use Rattle.code_sets.proofs.Bits.{count_next, words_len}
use Rattle.code_sets.proofs.Words.{words_rise}
use Rattle.code_sets.specs.Kept.{words_of}
use Rattle.code_sets.proofs.codes.Codes.len.Goals as goal

pub overflow_add-len : goal.overflow_add-len
overflow_add-len c =
    let words = c.words-word-items.result.now in
    let bits = (get_or words c.loop-word.word-index (record { number = 0; bits = 0 })).bits in
    let small : length c.args.self.now ≤ 2 ^ 32 = subst (λ (xs : List ℕ). length xs ≤ 2 ^ 32) c.self.view_is (words_len (words_of c.self.inside.kept) c.self.invariant) in
    let fits : bits < 2 ^ 64 = search rules in
    let next = count_next words c.loop-word.word-index _ c.loop-word.len (length c.args.self.now) c.loop-word-test.true fits c.loop-word.invariant in
    let low : c.loop-word.len + count_ones bits < 2 ^ 64 = omega (arith, small, next) in
    search rules

pub loop-word-preserved : goal.loop-word-preserved
loop-word-preserved c =
    let words = c.words-word-items.result.now in
    let bits = (get_or words c.loop-word.word-index (record { number = 0; bits = 0 })).bits in
    let fits : bits < 2 ^ 64 = search rules in
    count_next words c.loop-word.word-index _ c.loop-word.len (length c.args.self.now) c.loop-word-test.true fits c.loop-word.invariant

pub returns-clause-rises : goal.returns-clause-rises
returns-clause-rises c = subst Rises c.self.view_is (words_rise (words_of c.self.inside.kept) c.self.invariant.rise)
