-- The way from its end on, up to what this member leads to.
use Rattle.std.proofs.Common.{suc}
use Rattle.std.specs.Option.{option_map_or}
use Rattle.circular_eval.proofs.Paths.{LeadsOn}
use Rattle.circular_eval.proofs.local.Local.path.Given as goal

abbrev pub invariant-loop-at : goal.invariant-loop-at
invariant-loop-at l = LeadsOn l.self l.at l.list.items

abbrev pub decreases-loop-at : goal.decreases-loop-at
decreases-loop-at l = option_map_or suc l.at 0
