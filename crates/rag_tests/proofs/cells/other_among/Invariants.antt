-- The pass stays one of the cells, which are of the system.
use Rattle.std.proofs.Common.{◌≡◌}
use Rattle.memo_cells.specs.Standing.{IsPassOf}
use Rattle.rag_tests.proofs.cells.other_among.Given as goal

abbrev pub invariant-loop-k : goal.invariant-loop-k
invariant-loop-k l = record { own : IsPassOf l.cells l.pass; system : l.cells.system.value ≡ l.system }
