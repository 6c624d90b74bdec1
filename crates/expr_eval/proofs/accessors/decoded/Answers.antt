use Rattle.expr_eval.proofs.accessors.decoded.Goals as goal

pub returns-in-Some-clause-coded : goal.returns-in-Some-clause-coded
returns-in-Some-clause-coded c = c.of_code.ensures.elements
