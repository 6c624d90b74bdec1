use Rattle.std.proofs.Common.{arith, rules}
use Rattle.superclasses.proofs.Walks.{walk_init, walk_ended, walk_step, walk_end}
use Rattle.superclasses.proofs.subclasses.line_of.Goals as goal

pub loop-init : goal.loop-init
loop-init c = λ m h. walk_init _ _ m c.new-line.ensures.items c.superclass_of-above.ensures h

pub returns-in-None : goal.returns-in-None
returns-in-None c = walk_ended _ _ _ _ _ _ c.loop.invariant c.in-None.is (omega arith)

pub loop-preserved : goal.loop-preserved
loop-preserved c = walk_step _ _ _ _ _ _ c.loop.invariant _ c.in-Some.is c.superclass_of-above-in-Some.ensures (search rules)

pub returns : goal.returns
returns c = walk_end _ _ _ _ _ _ c.loop.invariant (omega arith) (omega arith)
