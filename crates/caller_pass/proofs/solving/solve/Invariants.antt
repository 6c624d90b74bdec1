-- The instance on top has the turn; the others wait for it. With each turn the measure falls.
use Rattle.caller_pass.proofs.Falling.{measure}
use Rattle.caller_pass.proofs.Solved.{IsTurn}
use Rattle.caller_pass.proofs.solving.solve.Given as goal

abbrev pub invariant-turns : goal.invariant-turns
invariant-turns g l = IsTurn l.fn.desk l.desk l.fn.i l.waiting l.top l.waiter l.fn.evals l.evals

abbrev pub decreases-turns : goal.decreases-turns
decreases-turns g l = measure l.desk.view l.waiting (l.top, l.waiter) l.fn.desk.frame.cells
