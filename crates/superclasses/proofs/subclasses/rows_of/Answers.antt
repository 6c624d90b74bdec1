use Rattle.std.proofs.Common.{rules, arith}
use Rattle.superclasses.proofs.Marks.{first_all, first_more}
use Rattle.superclasses.proofs.subclasses.rows_of.Goals as goal

pub loop-class-preserved : goal.loop-class-preserved
loop-class-preserved c = first_more _ _ _ c.in_ok-row.row c.requires c.loop-class.invariant (search rules) c.in_ok-row.ensures.exact

pub returns : goal.returns
returns c = first_all _ _ _ (omega arith) c.requires c.loop-class.invariant
