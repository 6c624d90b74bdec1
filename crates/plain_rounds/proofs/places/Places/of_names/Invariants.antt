-- The map has the first place of each of the names so far.
use Rattle.std.proofs.Common.{◌≡◌, take}
use Rattle.equation_law.specs.declared.coding.Instance.{Instance as CodedInstance}
use Rattle.plain_rounds.specs.Places.{first_place, kept_place}
use Rattle.plain_rounds.proofs.places.Places.of_names.Given as goal

abbrev pub invariant-loop-k : goal.invariant-loop-k
invariant-loop-k l = (q : CodedInstance) → kept_place l.map q ≡ first_place (take l.k l.names) q
