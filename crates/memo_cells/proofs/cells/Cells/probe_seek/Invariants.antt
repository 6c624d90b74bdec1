-- The pass knows at least what it knew, other keys have the places so far, nothing was claimed, and what was found stands in the log.
use Rattle.std.proofs.Common.{◌≡◌}
use Rattle.memo_cells.specs.Causes.{IsLogOn}
use Rattle.memo_cells.specs.Standing.{IsPassOf}
use Rattle.memo_cells.specs.Views.{IsAtLeast, IsOtherIn}
use Rattle.memo_cells.proofs.cells.Cells.probe_seek.Given as goal

abbrev pub invariant-loop-place : goal.invariant-loop-place
invariant-loop-place l = IsPassOf l.self l.pass × IsAtLeast l.initial.pass l.pass × IsOtherIn l.pass l.key l.from l.place × (l.pass.claims ≡ l.initial.pass.claims) × IsLogOn l.initial.pass l.pass
