-- The cells that came to be seen settled pay for the evaluations; each turn settles one more.
use Rattle.caller_pass.specs.Answering.{unsettled}
use Rattle.caller_pass.proofs.Sealing.{IsSealing}
use Rattle.caller_pass.proofs.solving.close.Given as goal

abbrev pub invariant-closing : goal.invariant-closing
invariant-closing g l = IsSealing l.fn.desk l.desk l.fn.i l.local l.slot.0 l.fn.evals l.evals

abbrev pub decreases-closing : goal.decreases-closing
decreases-closing g l = unsettled l.desk.view l.fn.desk.frame.cells
