-- The calls go down the arguments.
use Rattle.expr_eval.proofs.NewTokens.{parts_weight}
use Rattle.expr_eval.proofs.trees.+tokens.Given as goal

abbrev pub decreases-put_tokens : goal.decreases-put_tokens
decreases-put_tokens g a = parts_weight a.parts.now
