use Rattle.query_runner.proofs.OneAnswer.{full_or_refused}
use Rattle.query_runner.proofs.laws.full_or_refused.Goals as goal

pub returns : goal.returns
returns c = full_or_refused
