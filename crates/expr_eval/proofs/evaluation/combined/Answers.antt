use Rattle.std.proofs.lemmas.Result.{IfOk-weaker}
use Rattle.expr_eval.proofs.evaluation.combined.Goals as goal

pub returns-clause-value : goal.returns-clause-value
returns-clause-value c = IfOk-weaker c.set_operate.result _ _ (λ set made. made c.args.context.now.system.now c.requires.left c.requires.right) c.set_operate.ensures.value
