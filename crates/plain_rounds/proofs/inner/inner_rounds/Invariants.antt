-- The values are those of some turns; each turn leaves less room.
use Rattle.plain_rounds.specs.Rooms.{AreRooms}
use Rattle.plain_rounds.specs.Settings.{AreHeld, naming_at, program_at}
use Rattle.plain_rounds.specs.Steps.{AreInner}
use Rattle.plain_rounds.proofs.inner.inner_rounds.Given as goal

abbrev pub invariant-loop-values : goal.invariant-loop-values
invariant-loop-values l = record {
  inner : AreInner (program_at l.setting) (naming_at l.setting) l.setting.names.now l.settled l.values.items;
  are : AreHeld l.setting l.values.items;
  rooms : AreRooms (program_at l.setting) (naming_at l.setting) l.values.items l.left;
}

abbrev pub decreases-loop-values : goal.decreases-loop-values
decreases-loop-values l = l.left
