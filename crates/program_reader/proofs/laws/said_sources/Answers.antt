use Rattle.program_reader.proofs.Answerable.{said_alone}
use Rattle.program_reader.proofs.laws.said_sources.Goals as goal

pub returns : goal.returns
returns c = said_alone
