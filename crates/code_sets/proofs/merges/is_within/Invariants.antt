-- Whether the one set is within the other depends on what is left.
use Rattle.std.proofs.Common.{◌+◌, length}
use Rattle.code_sets.specs.Words.{codes_of_words}
use Rattle.code_sets.proofs.Merging.{Withins}
use Rattle.code_sets.proofs.merges.is_within.Given as goal

abbrev pub invariant-loop-number : goal.invariant-loop-number
invariant-loop-number l = Withins (codes_of_words l.ours) (codes_of_words l.theirs) l.our_words l.their_words

abbrev pub decreases-loop-number : goal.decreases-loop-number
decreases-loop-number l = length l.our_words + length l.their_words
