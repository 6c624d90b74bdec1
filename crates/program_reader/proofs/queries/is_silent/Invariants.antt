use Rattle.std.proofs.Common.{◌≡◌, drop}
use Rattle.program_reader.specs.Queries.{is_silent}
use Rattle.program_reader.proofs.queries.is_silent.Given as goal

-- the rest answers as the whole
abbrev pub invariant-loop-b : goal.invariant-loop-b
invariant-loop-b l = is_silent (drop l.b-index l.line) ≡ is_silent l.line
