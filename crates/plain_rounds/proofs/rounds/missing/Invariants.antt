-- Those so far that have no value.
use Rattle.std.proofs.Common.{◌≡◌, ◌≤◌, count_by, is_none, take}
use Rattle.plain_rounds.proofs.rounds.missing.Given as goal

abbrev pub invariant-loop-value : goal.invariant-loop-value
invariant-loop-value l = record {
  counted : l.missing ≡ count_by is_none (take l.value-index l.values);
  few : l.missing ≤ l.value-index;
}
