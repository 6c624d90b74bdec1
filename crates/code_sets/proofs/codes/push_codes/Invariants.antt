-- The codes of the bits so far are in the list.
use Rattle.std.proofs.Common.{◌≡◌, ◌++◌, length}
use Rattle.code_sets.specs.Words.{codes_of_word}
use Rattle.code_sets.proofs.codes.push_codes.Given as goal

abbrev pub invariant-loop-rest : goal.invariant-loop-rest
invariant-loop-rest l = l.list.items ++ codes_of_word l.word l.rest ≡ l.initial.list.items ++ codes_of_word l.word l.bits

abbrev pub decreases-loop-rest : goal.decreases-loop-rest
decreases-loop-rest l = length (codes_of_word l.word l.rest)
