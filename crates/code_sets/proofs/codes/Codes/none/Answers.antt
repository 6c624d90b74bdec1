use Rattle.code_sets.proofs.Merging.{no_words}
use Rattle.code_sets.proofs.codes.Codes.none.Goals as goal

pub invariant_of-result : goal.invariant_of-result
invariant_of-result c = no_words
