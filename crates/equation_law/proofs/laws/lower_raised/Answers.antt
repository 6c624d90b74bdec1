use Rattle.equation_law.proofs.Solution.{still_lower}
use Rattle.equation_law.proofs.laws.lower_raised.Goals as goal

pub returns : goal.returns
returns c = λ p T low i w may.
    let given = may.1 in
    let end = given.2 in
    still_lower p T given.0 low i may.0 given.1 end.0 w end.1 end.2 end.3 end.4
