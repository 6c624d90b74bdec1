use Rattle.collection_attrs.specs.Evaluations.{reading}
use Rattle.collection_attrs.proofs.Grown.{survey_ends}
use Rattle.collection_attrs.proofs.laws.surveys_over.Goals as goal

pub returns : goal.returns
returns c = λ p A n x s h. survey_ends p (reading A n) h
