-- The pass knows at least what it knew, other keys have the places so far, and nothing else was claimed.
use Rattle.memo_cells.specs.Causes.{IsLogOn}
use Rattle.memo_cells.specs.Standing.{IsPassOf}
use Rattle.memo_cells.specs.Views.{ClaimsOnly, IsAtLeast, IsOtherIn}
use Rattle.memo_cells.proofs.cells.Cells.probe_claim.Given as goal

abbrev pub invariant-loop-place : goal.invariant-loop-place
invariant-loop-place l = IsPassOf l.self l.pass × IsAtLeast l.initial.pass l.pass × IsOtherIn l.pass l.key l.from l.place × ClaimsOnly l.initial.pass l.pass l.key × IsLogOn l.initial.pass l.pass
