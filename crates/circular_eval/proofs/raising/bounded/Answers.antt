use Rattle.std.proofs.Common.{rules}
use Rattle.circular_eval.specs.Left.{code_bound}
use Rattle.circular_eval.proofs.raising.bounded.Goals as goal

pub returns : goal.returns
unfolding code_bound
returns c = search rules
