use Rattle.std.proofs.Common.{ℕ, ◌||◌, List, sym, subst}
use Rattle.std.specs.List.{insert}
use Rattle.code_sets.specs.declared.word.Word.{Word}
use Rattle.code_sets.specs.Kept.{with_bits, words_of}
use Rattle.code_sets.specs.Members.{AreMade, Rises}
use Rattle.code_sets.specs.Places.{IsAt, IsGapFor}
use Rattle.code_sets.specs.Words.{AreWords, codes_of_word, codes_of_words}
use Rattle.code_sets.proofs.Made.{made_insert, made_nothing, set_made, set_words, words_insert}
use Rattle.code_sets.proofs.Success.{either_way, on_ok}
use Rattle.code_sets.proofs.Words.{words_rise}
use Rattle.code_sets.proofs.codes.Codes.add_word.Goals as goal

pub returns-then-bits-eq0-clause-made : goal.returns-then-bits-eq0-clause-made
returns-then-bits-eq0-clause-made c =
    subst (λ (bits : ℕ). AreMade (λ a b. a || b) c.args.self.now (codes_of_word c.args.word bits) c.args.self.now) (sym c.if-bits-eq0.true)
    (made_nothing c.args.self.now c.args.word (subst Rises c.self.view_is (words_rise (words_of c.self.inside.kept) c.self.invariant.rise)))

pub invariant_of-self : goal.invariant_of-self
invariant_of-self c =
    let es = words_of c.self.inside.kept in
    let is : IsAt es c.args.word c.in-Ok.at = subst (λ (l : List Word). IsAt l c.args.word c.in-Ok.at) c.words-words.ensures c.in-Ok.ensures.found in
    either_way AreWords c.add_bits.result (words_of c.add_bits.new.self) (with_bits es c.in-Ok.at c.args.bits) es c.add_bits.ensures.ok c.add_bits.ensures.err
    (set_words es c.in-Ok.at c.args.word c.args.bits (record { number = 0; bits = 0 }) is c.self.invariant c.ranges.bits.fits c.if-bits-eq0.false) c.self.invariant

pub returns-in-Ok-clause-made : goal.returns-in-Ok-clause-made
returns-in-Ok-clause-made c =
    let es = words_of c.self.inside.kept in
    let is : IsAt es c.args.word c.in-Ok.at = subst (λ (l : List Word). IsAt l c.args.word c.in-Ok.at) c.words-words.ensures c.in-Ok.ensures.found in
    let made : AreMade (λ a b. a || b) (codes_of_words es) (codes_of_word c.args.word c.args.bits) (codes_of_words (with_bits es c.in-Ok.at c.args.bits))
    = set_made es c.in-Ok.at c.args.word c.args.bits (record { number = 0; bits = 0 }) is c.self.invariant c.ranges.bits.fits c.if-bits-eq0.false in
    on_ok c.add_bits.result
    (λ e. subst (λ (xs : List ℕ). AreMade (λ a b. a || b) xs (codes_of_word c.args.word c.args.bits) (codes_of_words (words_of c.add_bits.new.self))) c.self.view_is
    (subst (λ (l : List Word). AreMade (λ a b. a || b) (codes_of_words es) (codes_of_word c.args.word c.args.bits) (codes_of_words l)) (sym e) made))
    c.add_bits.ensures.ok

pub invariant_of-self-in-Err : goal.invariant_of-self-in-Err
invariant_of-self-in-Err c =
    let es = words_of c.self.inside.kept in
    let w : Word = record { number = c.args.word; bits = c.args.bits } in
    let gap : IsGapFor es c.args.word c.in-Err.at = subst (λ (l : List Word). IsGapFor l c.args.word c.in-Err.at) c.words-words.ensures c.in-Err.ensures.absent in
    either_way AreWords c.insert.result (words_of c.insert.new.self) (insert es c.in-Err.at w) es c.insert.ensures.ok c.insert.ensures.err
    (words_insert es c.in-Err.at w c.self.invariant (record { small = c.requires; some = c.if-bits-eq0.false; fits = c.ranges.bits.fits }) gap) c.self.invariant

pub returns-in-Err-clause-made : goal.returns-in-Err-clause-made
returns-in-Err-clause-made c =
    let es = words_of c.self.inside.kept in
    let w : Word = record { number = c.args.word; bits = c.args.bits } in
    let gap : IsGapFor es c.args.word c.in-Err.at = subst (λ (l : List Word). IsGapFor l c.args.word c.in-Err.at) c.words-words.ensures c.in-Err.ensures.absent in
    on_ok c.insert.result
    (λ e. subst (λ (xs : List ℕ). AreMade (λ a b. a || b) xs (codes_of_word c.args.word c.args.bits) (codes_of_words (words_of c.insert.new.self))) c.self.view_is
    (subst (λ (l : List Word). AreMade (λ a b. a || b) (codes_of_words es) (codes_of_word c.args.word c.args.bits) (codes_of_words l)) (sym e)
    (made_insert es c.in-Err.at w c.self.invariant (record { small = c.requires; some = c.if-bits-eq0.false; fits = c.ranges.bits.fits }) gap)))
    c.insert.ensures.ok
