use Rattle.circular_eval.specs.Left.{member_bound}
use Rattle.circular_eval.proofs.local.Local.len.Goals as goal

pub returns-clause-few : goal.returns-clause-few
unfolding member_bound
returns-clause-few c = c.len.ensures.small
