-- The words so far have what is to be made of those before.
use Rattle.std.proofs.Common.{◌+◌, length}
use Rattle.code_sets.specs.Merges.{keeps}
use Rattle.code_sets.specs.Words.{codes_of_words}
use Rattle.code_sets.proofs.Merging.{Merges}
use Rattle.code_sets.proofs.merges.merge.Given as goal

abbrev pub invariant-loop-number : goal.invariant-loop-number
invariant-loop-number l = Merges (keeps l.operation) (codes_of_words l.ours) (codes_of_words l.theirs) l.our_words l.their_words l.words.items

abbrev pub decreases-loop-number : goal.decreases-loop-number
decreases-loop-number l = length l.our_words + length l.their_words
