use Rattle.std.proofs.Common.{subst}
use Rattle.code_sets.specs.Members.{Rises}
use Rattle.code_sets.proofs.Words.{words_rise}
use Rattle.code_sets.specs.Kept.{words_of}
use Rattle.code_sets.proofs.codes.Codes.has_all.Goals as goal

pub returns-clause-rises : goal.returns-clause-rises
returns-clause-rises c = subst Rises c.self.view_is (words_rise (words_of c.self.inside.kept) c.self.invariant.rise)
