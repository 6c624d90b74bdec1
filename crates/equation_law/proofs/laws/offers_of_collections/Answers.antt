use Rattle.equation_law.proofs.Offered.{offers_are}
use Rattle.equation_law.proofs.laws.offers_of_collections.Goals as goal

pub returns : goal.returns
returns c = λ p good a. offers_are p good a
