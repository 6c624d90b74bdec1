use Rattle.std.proofs.Common.{rules}
use Rattle.rag_io.specs.Tokens.{seen_tokens}
use Rattle.jrag_reader.specs.Building.{seen_builder}
use Rattle.jrag_reader.specs.Stack.{tops}
use Rattle.jrag_reader.proofs.Ongoing.{acting}
use Rattle.jrag_reader.proofs.building.step.Goals as goal

pub returns : goal.returns
returns g c = acting c.args.start g.texts (seen_tokens c.args.tokens.now) (seen_builder c.args.b.now) c.args.event c.make.result (tops c.make.new.parts.items) (search rules) c.make.ensures
