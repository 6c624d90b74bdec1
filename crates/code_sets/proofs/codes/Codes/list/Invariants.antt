-- The codes of the words so far are in the list.
use Rattle.std.proofs.Common.{◌≡◌, ◌++◌, drop}
use Rattle.code_sets.specs.Words.{codes_of_words}
use Rattle.code_sets.proofs.codes.Codes.list.Given as goal

abbrev pub invariant-loop-word : goal.invariant-loop-word
invariant-loop-word l = l.list.items ++ codes_of_words (drop l.word-index l.word-items) ≡ l.self
