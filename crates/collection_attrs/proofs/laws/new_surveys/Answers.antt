use Rattle.std.proofs.Common.{subst, sym}
use Rattle.equation_law.specs.Codes.{IsNamingOf}
use Rattle.collection_attrs.specs.Evaluations.{reading}
use Rattle.collection_attrs.proofs.Grown.{survey_begins}
use Rattle.collection_attrs.proofs.Known.{all_known}
use Rattle.collection_attrs.proofs.laws.new_surveys.Goals as goal

pub returns : goal.returns
returns c = λ p A n of s named new x is. survey_begins (reading A n) (λ names same. subst (IsNamingOf p) (sym same) named) (all_known (reading A n) (λ k. tt) s.so_far) is new
