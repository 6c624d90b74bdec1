use Rattle.std.proofs.Common.{refl, sym, subst}
use Rattle.expr_eval.specs.declared.sites.Turn.{Turn}
use Rattle.expr_eval.specs.declared.sites.Turn.TheVariants as turns
use Rattle.expr_eval.specs.Sites.{TurnAs}
use Rattle.expr_eval.proofs.sites.Turn.read_as.Goals as goal

pub returns-in-Done : goal.returns-in-Done
returns-in-Done c = subst (λ (t : Turn). TurnAs c.args.kind t (turns.Done c.read_as.result)) (sym c.in-Done.is) (c.read_as.result, refl, c.read_as.ensures.value, c.read_as.ensures.elements)
