-- Looking at instances reads on.
use Rattle.memo_cells.specs.Working.{ReadsOn}
use Rattle.rag_tests.proofs.sweeps.count_sealed.Given as goal

abbrev pub invariant-loop-node : goal.invariant-loop-node
invariant-loop-node l = ReadsOn l.initial.work l.work
