-- The ledger is that of the blank.
use Rattle.rag_tests.proofs.counted.other_asked.Given as goal

abbrev pub ghosts-other_in_cells : goal.ghosts-other_in_cells
ghosts-other_in_cells a = record { name = a.blank.name; parts = a.blank.parts }
