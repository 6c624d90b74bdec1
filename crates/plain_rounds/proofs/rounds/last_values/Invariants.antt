-- The table is that of some rounds; each turn fills a gap.
use Rattle.std.proofs.Common.{◌≡◌, count_by, is_none}
use Rattle.plain_rounds.specs.Settings.{AreHeld, naming_at, program_at}
use Rattle.plain_rounds.specs.Steps.{IsAfter}
use Rattle.plain_rounds.proofs.rounds.last_values.Given as goal

abbrev pub invariant-loop-values : goal.invariant-loop-values
invariant-loop-values l = record {
  after : IsAfter (program_at l.setting) (naming_at l.setting) l.setting.names.now l.values.items;
  are : AreHeld l.setting l.values.items;
  gaps : l.left ≡ count_by is_none l.values.items;
}

abbrev pub decreases-loop-values : goal.decreases-loop-values
decreases-loop-values l = l.left
