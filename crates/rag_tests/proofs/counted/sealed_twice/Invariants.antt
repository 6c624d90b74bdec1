-- The ledger is that of the blank.
use Rattle.rag_tests.proofs.counted.sealed_twice.Given as goal

abbrev pub ghosts-counted_twice : goal.ghosts-counted_twice
ghosts-counted_twice a = record { name = a.blank.name; parts = a.blank.parts }
