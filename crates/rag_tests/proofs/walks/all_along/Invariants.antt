-- Sums read on along one walk.
use Rattle.equation_law.specs.Systems.{program_of}
use Rattle.memo_cells.specs.Working.{ReadsOn, told_by}
use Rattle.collection_attrs.specs.Walks.{IsWalk}
use Rattle.rag_tests.proofs.walks.all_along.Given as goal

abbrev pub invariant-loop-place : goal.invariant-loop-place
invariant-loop-place l = record {
  on : ReadsOn l.initial.work l.work;
  walk : IsWalk (program_of l.system) (told_by l.work) l.offers;
}
