use Rattle.std.proofs.Common.{ℕ, List, ap, ◌∙◌, subst, rules}
use Rattle.code_sets.specs.Members.{Rises, has_code}
use Rattle.code_sets.specs.Words.{AreWords, codes_of_words}
use Rattle.code_sets.proofs.Made.{has_at, has_none}
use Rattle.code_sets.proofs.Words.{words_rise}
use Rattle.code_sets.specs.Kept.{words_of}
use Rattle.code_sets.proofs.codes.Codes.word.Goals as goal

pub returns-in-Ok-clause-bits : goal.returns-in-Ok-clause-bits
returns-in-Ok-clause-bits c q same =
    let words : AreWords c.words-words.result.now = search rules in
    has_at c.words-words.result.now c.in-Ok.at c.args.number _ words.rise c.in-Ok.ensures.found.in_range (c.in-Ok.ensures.found.has_number _) q same
    ∙ ap (λ (xs : List ℕ). has_code xs q) (ap codes_of_words c.words-words.ensures ∙ c.self.view_is)

pub returns-in-Ok-clause-rises : goal.returns-in-Ok-clause-rises
returns-in-Ok-clause-rises c = subst Rises c.self.view_is (words_rise (words_of c.self.inside.kept) c.self.invariant.rise)

pub returns-in-Err-clause-bits : goal.returns-in-Err-clause-bits
returns-in-Err-clause-bits c q same =
    has_none c.words-words.result.now _ c.args.number q c.in-Err.ensures.absent same
    ∙ ap (λ (xs : List ℕ). has_code xs q) (ap codes_of_words c.words-words.ensures ∙ c.self.view_is)

pub returns-in-Err-clause-rises : goal.returns-in-Err-clause-rises
returns-in-Err-clause-rises c = subst Rises c.self.view_is (words_rise (words_of c.self.inside.kept) c.self.invariant.rise)
