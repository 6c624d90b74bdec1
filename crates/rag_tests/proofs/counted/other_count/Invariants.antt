-- The pass stays one of the cells, which are of the system.
use Rattle.std.proofs.Common.{◌≡◌}
use Rattle.equation_law.specs.Checked.{IsProgram}
use Rattle.equation_law.specs.Systems.{program_of}
use Rattle.memo_cells.specs.Standing.{IsPassOf}
use Rattle.rag_tests.proofs.counted.other_count.Given as goal

abbrev pub invariant-loop-row : goal.invariant-loop-row
invariant-loop-row g l = record { own : IsPassOf l.cells l.pass; system : l.cells.system.value ≡ l.system; program : IsProgram (program_of l.system) }
