-- Among them now are those that were before, and some of those that are put.
use Rattle.caller_pass.specs.Noting.{KeepsAmong}
use Rattle.caller_pass.proofs.notebook.put_all.Given as goal

abbrev pub invariant-loop-one : goal.invariant-loop-one
invariant-loop-one l = KeepsAmong l.initial.among.keys l.more l.among.keys
