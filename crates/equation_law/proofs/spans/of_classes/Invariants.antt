-- The nodes so far.
use Rattle.equation_law.proofs.Spanned.{AreMet}
use Rattle.equation_law.proofs.spans.of_classes.Given as goal

abbrev pub invariant-loop-node : goal.invariant-loop-node
invariant-loop-node l = AreMet l.tree l.classes l.node l.firsts.items l.ends.items
