use Rattle.superclasses.proofs.Marks.{MarkFirst}
use Rattle.superclasses.proofs.subclasses.rows_of.Given as goal

abbrev pub invariant-loop-class : goal.invariant-loop-class
invariant-loop-class l = MarkFirst l.superclasses l.class l.rows.items
