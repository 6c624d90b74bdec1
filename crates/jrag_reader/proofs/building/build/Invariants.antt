use Rattle.std.proofs.Common.{◌≡◌, drop}
use Rattle.rag_io.specs.Tokens.{seen_tokens}
use Rattle.jrag_reader.specs.Building.{seen_builder}
use Rattle.jrag_reader.specs.Running.{nothing, run}
use Rattle.jrag_reader.proofs.building.build.Given as goal

abbrev pub ghost-step : goal.ghost-step
ghost-step g a = g.texts

-- the events that are left lead from here where all lead
abbrev pub invariant-events : goal.invariant-events
invariant-events g l = run l.start g.texts (seen_tokens l.tokens) (seen_builder l.b) (drop l.event-index l.sentence) ≡ run l.start g.texts (seen_tokens l.tokens) nothing l.sentence
