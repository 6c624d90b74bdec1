-- What is looked at is an instance, and its nodes are known.
use Rattle.equation_law.specs.Codes.{IsCoded}
use Rattle.equation_law.specs.Systems.{program_of}
use Rattle.memo_cells.specs.Agreeing.{IsKnownInstance}
use Rattle.memo_cells.specs.Working.{ReadsOn}
use Rattle.caller_pass.specs.Holding.{IsInstanceByEach}
use Rattle.rag_tests.proofs.sweeps.first_circular.Given as goal

abbrev pub invariant-loop : goal.invariant-loop
invariant-loop l = record {
  on : ReadsOn l.initial.work l.work;
  instance : IsInstanceByEach (program_of l.system) l.work.view l.at;
  coded : IsCoded (program_of l.system) l.at;
  known : IsKnownInstance (program_of l.system) l.work.view.made l.at;
}
