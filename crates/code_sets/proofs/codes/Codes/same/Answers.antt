use Rattle.std.proofs.Common.{◌≡◌, ◌∙◌, sym, ap}
use Rattle.std.proofs.lemmas.Bool.{false≢true}
use Rattle.std.proofs.lemmas.Slice.Eq.{slice_eq-Decides}
use Rattle.code_sets.specs.Words.{codes_of_words}
use Rattle.code_sets.proofs.Sameness.{word_decides, words_same}
use Rattle.code_sets.specs.Kept.{words_of}
use Rattle.code_sets.proofs.codes.Codes.same.Goals as goal

pub returns-clause-equal : goal.returns-clause-equal
returns-clause-equal c e =
    let words : c.words.result.now ≡ c.words-2.result.now = (slice_eq-Decides word_decides c.words.result.now c.words-2.result.now c.eq.result c.eq.ensures).0 e in
    sym c.self.view_is ∙ ap codes_of_words (sym c.words.ensures ∙ words ∙ c.words-2.ensures) ∙ c.other.view_is

pub returns-clause-unequal : goal.returns-clause-unequal
returns-clause-unequal c e same =
    let words = words_same (words_of c.self.inside.kept) (words_of c.other.inside.kept) c.self.invariant c.other.invariant (c.self.view_is ∙ same ∙ sym c.other.view_is) in
    let slices : c.words.result.now ≡ c.words-2.result.now = c.words.ensures ∙ words ∙ sym c.words-2.ensures in
    false≢true (sym e ∙ (slice_eq-Decides word_decides c.words.result.now c.words-2.result.now c.eq.result c.eq.ensures).1 slices)
