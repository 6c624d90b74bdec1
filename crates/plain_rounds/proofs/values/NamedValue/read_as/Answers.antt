use Rattle.plain_rounds.proofs.values.NamedValue.read_as.Goals as goal

pub returns-clause-elements : goal.returns-clause-elements
returns-clause-elements c = λ p h. c.read_as.ensures.elements p (c.in_ok-value.ensures.elements p h.0)
