use Rattle.collection_attrs.proofs.Walked.{walk_more}
use Rattle.collection_attrs.proofs.laws.walks_stay.Goals as goal

pub returns : goal.returns
returns c = λ p A B n g w h. walk_more g (λ names is. is) (λ k all. all) h
