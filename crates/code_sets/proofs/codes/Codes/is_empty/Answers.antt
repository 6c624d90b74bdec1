use Rattle.std.proofs.Common.{ℕ, List, ◌∙◌, ◌==◌, length, ap}
use Rattle.code_sets.specs.declared.word.Word.{Word}
use Rattle.code_sets.proofs.Sameness.{words_empty}
use Rattle.code_sets.specs.Kept.{words_of}
use Rattle.code_sets.proofs.codes.Codes.is_empty.Goals as goal

pub returns : goal.returns
returns c = c.is_empty.ensures ∙ ap (λ (l : List Word). length l == 0) c.words.ensures ∙ words_empty (words_of c.self.inside.kept) c.self.invariant ∙ ap (λ (xs : List ℕ). length xs == 0) c.self.view_is
