-- What is read is a program, which makes nothing.
use Rattle.equation_law.specs.Systems.{program_of}
use Rattle.equation_law.proofs.Pooled.{texts_pooled}
use Rattle.program_reader.proofs.Answerable.{is_program, said_alone}
use Rattle.rag_tests.proofs.programs.system_said.Goals as goal

pub returns-in-Ok-clause-program : goal.returns-in-Ok-clause-program
returns-in-Ok-clause-program c = is_program _ (program_of c.in-Ok.system) c.in-Ok.ensures.said (texts_pooled c.in-Ok.system)

pub returns-in-Ok-clause-bare : goal.returns-in-Ok-clause-bare
returns-in-Ok-clause-bare c = said_alone _ (program_of c.in-Ok.system) c.in-Ok.ensures.said
