use Rattle.equation_law.specs.Reading.{IsSound}
use Rattle.equation_law.specs.Systems.{program_of}
use Rattle.expr_eval.specs.Saved.{AreSaved}
use Rattle.rag_tests.specs.declared.resumed.Late.{Late}
use Rattle.rag_tests.specs.Late.{late}
use Rattle.rag_tests.proofs.resumed.follow.Given as goal

abbrev pub invariant-loop : goal.invariant-loop
invariant-loop l = IsSound {S = Late} (program_of l.system) (late (program_of l.reader.system.now) l.reader.known) × AreSaved {S = Late} l.system (late (program_of l.reader.system.now) l.reader.known) l.saved
