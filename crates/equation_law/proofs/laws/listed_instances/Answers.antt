use Rattle.equation_law.proofs.Listed.{is_listed, listed_is}
use Rattle.equation_law.proofs.laws.listed_instances.Goals as goal

pub returns : goal.returns
returns c = λ p i. (listed_is p i, λ h. is_listed p i h.0 h.1)
