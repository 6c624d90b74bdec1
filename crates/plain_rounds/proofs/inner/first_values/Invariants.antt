-- The values so far are those before the first round.
use Rattle.std.proofs.Common.{◌≡◌, ℕ, All, length, ◌<◌, None, get_or}
use Rattle.plain_rounds.specs.Places.{IsHeld}
use Rattle.plain_rounds.specs.Settings.{naming_at, program_at}
use Rattle.plain_rounds.specs.Steps.{IsFirstAt}
use Rattle.plain_rounds.proofs.inner.first_values.Given as goal

abbrev pub invariant-loop-k : goal.invariant-loop-k
invariant-loop-k l = record {
  long : length l.values.items ≡ l.k;
  each : (i : ℕ) → i < l.k → IsFirstAt (program_at l.setting) (naming_at l.setting) l.setting.names.now l.settled i (get_or l.values.items i None);
  held : All (IsHeld (program_at l.setting)) l.values.items;
}
