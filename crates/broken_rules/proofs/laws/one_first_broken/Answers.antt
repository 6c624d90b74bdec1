use Rattle.broken_rules.proofs.Answering.{answered, one_answer}
use Rattle.broken_rules.proofs.Order.{same_place}
use Rattle.broken_rules.proofs.laws.one_first_broken.Goals as goal

pub returns-clause-answer : goal.returns-clause-answer
returns-clause-answer c = λ phases p q a b. one_answer a b

pub returns-clause-computed : goal.returns-clause-computed
returns-clause-computed c = answered

pub returns-clause-order : goal.returns-clause-order
returns-clause-order c = same_place
