-- The cells so far are counted.
use Rattle.std.proofs.Common.{◌≡◌}
use Rattle.memo_cells.specs.Causes.{IsLogOn}
use Rattle.memo_cells.specs.Standing.{IsPassOf}
use Rattle.memo_cells.specs.Views.{IsAtLeast, settled_below}
use Rattle.memo_cells.proofs.cells.Cells.settled_count.Given as goal

abbrev pub invariant-loop-place : goal.invariant-loop-place
invariant-loop-place l = IsPassOf l.self l.pass × IsAtLeast l.initial.pass l.pass × (l.count ≡ settled_below l.pass l.place) × (l.pass.claims ≡ l.initial.pass.claims) × IsLogOn l.initial.pass l.pass
