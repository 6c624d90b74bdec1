use Rattle.query_runner.proofs.OneAnswer.{one_answer}
use Rattle.query_runner.proofs.laws.one_answer.Goals as goal

pub returns : goal.returns
returns c = one_answer
