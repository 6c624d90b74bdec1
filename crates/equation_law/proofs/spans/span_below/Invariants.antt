-- The nodes of the classes so far that are this one or below it.
use Rattle.std.proofs.Common.{List, length}
use Rattle.tree_arena.specs.Nodes.{Node}
use Rattle.equation_law.specs.Spans.{AreFrom, AreOfClasses}
use Rattle.equation_law.proofs.Spanned.{BelowAmong}
use Rattle.equation_law.proofs.spans.span_below.Given as goal

abbrev pub invariant-loop-number : goal.invariant-loop-number
invariant-loop-number l = (tree : List Node) → AreOfClasses tree (length l.grammar) l.own.firsts.items l.own.ends.items → AreFrom (BelowAmong l.grammar tree l.class l.number) l.span.first l.span.end
