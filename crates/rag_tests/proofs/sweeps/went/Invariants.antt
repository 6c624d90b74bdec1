-- Nobody counts the turns of the test.
use Rattle.rag_tests.proofs.sweeps.went.Given as goal

abbrev pub ghosts-go_on_twice : goal.ghosts-go_on_twice
ghosts-go_on_twice a = record { name = a.blank.name; parts = a.blank.parts }
