-- The way goes downwards, and where the receiver has a spot, it leads on to that.
use Rattle.std.proofs.Common.{◌≡◌, ℕ, ◌-◌, ◌<◌, Some, length, slice_get}
use Rattle.collection_attrs.specs.declared.lasts.Spot.{Spot}
use Rattle.collection_attrs.specs.Spots.{Leads}
use Rattle.collection_attrs.proofs.lasts.way_end.Given as goal

abbrev pub invariant-down : goal.invariant-down
invariant-down l = record {
  within : l.at < length l.spots;
  led : Leads l.spots 0 l.receiver.0 l.at l.left;
  still : (i : ℕ) (s : Spot) → slice_get l.spots i ≡ Some s → s.receiver.0 ≡ l.receiver.0 → (rest : ℕ) × Leads l.spots l.at l.left i rest;
}

abbrev pub decreases-down : goal.decreases-down
decreases-down l = length l.spots - l.at
