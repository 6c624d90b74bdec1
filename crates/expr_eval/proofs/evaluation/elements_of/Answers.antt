-- The list of a node has source nodes alone.
use Rattle.std.proofs.Common.{subst, sym}
use Rattle.expr_eval.specs.Elements.{KnowsOrigin}
use Rattle.expr_eval.proofs.evaluation.elements_of.Goals as goal

pub returns-in-Quantified-clause-known : goal.returns-in-Quantified-clause-known
returns-in-Quantified-clause-known g c = subst (KnowsOrigin (g.R.Reader.tells c.args.reader.now)) (sym c.of.ensures.origin) tt

pub returns-in-Each-clause-known : goal.returns-in-Each-clause-known
returns-in-Each-clause-known g c = subst (KnowsOrigin (g.R.Reader.tells c.args.reader.now)) (sym c.of-in-Each.ensures.origin) tt
