use Rattle.collection_attrs.proofs.Grown.{surveyed_more}
use Rattle.collection_attrs.proofs.laws.surveys_stay.Goals as goal

pub returns : goal.returns
returns c = λ p A B n g c s h. surveyed_more g (λ names is. is) (λ k all. all) h
