-- The way goes on from the node that is reached.
use Rattle.std.proofs.Common.{◌≡◌, ◌<◌, length}
use Rattle.equation_law.specs.Systems.{program_of}
use Rattle.inherited_walk.specs.Ways.{IsWay}
use Rattle.inherited_walk.proofs.ways.fill.Given as goal

abbrev pub invariant-loop-parent : goal.invariant-loop-parent
invariant-loop-parent l = record { within : l.at < length (program_of l.system).tree; way : IsWay (program_of l.system) l.attr.0 l.node l.at; same : l.ways ≡ l.initial.ways }

abbrev pub decreases-loop-parent : goal.decreases-loop-parent
decreases-loop-parent l = l.at
