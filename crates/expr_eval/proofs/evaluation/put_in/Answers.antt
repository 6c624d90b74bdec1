use Rattle.equation_law.specs.Systems.{program_of}
use Rattle.expr_eval.proofs.evaluation.put_in.Goals as goal

pub returns-then-truth-3-clause-coded : goal.returns-then-truth-3-clause-coded
returns-then-truth-3-clause-coded c = c.put_element.ensures.coded (program_of c.args.context.now.system.now)
