-- The values so far are those after the round.
use Rattle.std.proofs.Common.{◌≡◌, ℕ, All, length, ◌<◌, None, get_or}
use Rattle.plain_rounds.specs.Places.{IsHeld}
use Rattle.plain_rounds.specs.Settings.{naming_at, program_at}
use Rattle.plain_rounds.specs.Steps.{IsInnerStepAt}
use Rattle.plain_rounds.proofs.inner.inner_round.Given as goal

abbrev pub invariant-loop-k : goal.invariant-loop-k
invariant-loop-k l = record {
  long : length l.next.items ≡ l.k;
  each : (i : ℕ) → i < l.k → IsInnerStepAt (program_at l.setting) (naming_at l.setting) l.setting.names.now l.settled l.values i (get_or l.next.items i None);
  held : All (IsHeld (program_at l.setting)) l.next.items;
}
