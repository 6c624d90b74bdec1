-- The codes of the words so far are counted.
use Rattle.std.proofs.Common.{◌≡◌, ◌+◌, drop, length}
use Rattle.code_sets.specs.Words.{codes_of_words}
use Rattle.code_sets.proofs.codes.Codes.len.Given as goal

abbrev pub invariant-loop-word : goal.invariant-loop-word
invariant-loop-word l = l.len + length (codes_of_words (drop l.word-index l.word-items)) ≡ length l.self
