use Rattle.std.proofs.Common.{rules}
use Rattle.expr_eval.proofs.Names.{same_codes}
use Rattle.expr_eval.proofs.operators.same_node.Goals as goal

pub returns : goal.returns
returns c p n is = same_codes is c.args.left.0 c.args.right.0 c.eq.result (λ e. search rules) (λ e f. search rules)
