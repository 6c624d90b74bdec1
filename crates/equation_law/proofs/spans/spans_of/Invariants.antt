-- The spans of the classes so far.
use Rattle.equation_law.proofs.Spanned.{AreSpansBelow}
use Rattle.equation_law.proofs.spans.spans_of.Given as goal

abbrev pub invariant-loop-class : goal.invariant-loop-class
invariant-loop-class l = AreSpansBelow l.grammar l.tree l.class l.firsts.items l.ends.items
