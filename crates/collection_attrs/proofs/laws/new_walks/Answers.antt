use Rattle.collection_attrs.specs.Evaluations.{reading}
use Rattle.collection_attrs.proofs.Walked.{walk_begins}
use Rattle.collection_attrs.proofs.laws.new_walks.Goals as goal

pub returns : goal.returns
returns c = λ p A n a r l. walk_begins p (reading A n) a r l
