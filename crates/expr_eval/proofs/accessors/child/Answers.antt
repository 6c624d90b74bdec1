use Rattle.equation_law.specs.Codes.{reference_by}
use Rattle.expr_eval.proofs.Accessed.{child_by}
use Rattle.expr_eval.proofs.accessors.child.Goals as goal

pub returns-in-Some-clause-child : goal.returns-in-Some-clause-child
returns-in-Some-clause-child c n is = child_by is c.in-Some.node c.args.k.0 c.args.receiver.0 (reference_by n.node c.child_at.result.0) c.requires c.in-Some.ensures (c.child_at.ensures.element n is)
