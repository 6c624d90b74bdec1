use Rattle.equation_law.proofs.Roots.{root_closest, root_there, rootless}
use Rattle.equation_law.proofs.laws.roots_of_collections.Goals as goal

pub returns-clause-there : goal.returns-clause-there
returns-clause-there c = λ p good d. root_there p good d

pub returns-clause-closest : goal.returns-clause-closest
returns-clause-closest c = λ p good d k r n root may. root_closest p good d k r n root may.0 may.1

pub returns-clause-none : goal.returns-clause-none
returns-clause-none c = λ p good d. rootless p good d
