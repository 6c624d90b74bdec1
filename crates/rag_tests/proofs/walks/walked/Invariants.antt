-- Nobody counts the turns of the test.
use Rattle.rag_tests.proofs.walks.walked.Given as goal

abbrev pub ghosts-known_first : goal.ghosts-known_first
ghosts-known_first a = record { name = a.blank.name; parts = a.blank.parts }
