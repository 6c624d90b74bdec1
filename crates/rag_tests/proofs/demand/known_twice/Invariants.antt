-- Nobody counts the evaluations of the test.
use Rattle.rag_tests.proofs.demand.known_twice.Given as goal

abbrev pub ghosts-asked_twice : goal.ghosts-asked_twice
ghosts-asked_twice a = record { name = a.blank.name; parts = a.blank.parts }
