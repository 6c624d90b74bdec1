use Rattle.program_reader.proofs.Answerable.{said_program}
use Rattle.program_reader.proofs.laws.said_programs.Goals as goal

pub returns : goal.returns
returns c = said_program
