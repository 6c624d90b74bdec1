-- The row is filled with the places so far.
use Rattle.std.proofs.Common.{◌≡◌, take}
use Rattle.attr_rules.specs.Dispatching.{filled}
use Rattle.attr_rules.proofs.dispatch.fill.Given as goal

abbrev pub invariant-loop-place : goal.invariant-loop-place
invariant-loop-place l = l.row ≡ filled l.fn.row (take l.place l.above)
