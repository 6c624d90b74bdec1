-- Nobody counts the evaluations of the test.
use Rattle.rag_tests.proofs.demand.filled.Given as goal

abbrev pub ghosts-other_asked : goal.ghosts-other_asked
ghosts-other_asked a = record { name = a.blank.name; parts = a.blank.parts }
