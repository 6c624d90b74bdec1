-- The rooms so far, added up.
use Rattle.std.proofs.Common.{◌≡◌, ℕ, ◌*◌, ◌<◌, ◌≤◌, All, get_or, None, sum_by, take}
use Rattle.equation_law.specs.declared.system.System.{System}
use Rattle.equation_law.specs.Codes.{ByEachNaming}
use Rattle.equation_law.specs.Systems.{program_of}
use Rattle.plain_rounds.specs.Places.{IsHeld}
use Rattle.plain_rounds.specs.Rooms.{IsLow, room, top}
use Rattle.plain_rounds.specs.Steps.{known}
use Rattle.plain_rounds.proofs.rooms.rooms.Given as goal

abbrev pub invariant-loop-value : goal.invariant-loop-value
invariant-loop-value l = record {
  most : l.total ≤ l.value-index * top;
  sum : (s : System) → All (IsHeld (program_of s)) l.values → ByEachNaming (program_of s) (λ n. l.total ≡ sum_by (λ v. room (known (program_of s) n v)) (take l.value-index l.values));
  low : (s : System) → All (IsHeld (program_of s)) l.values → ByEachNaming (program_of s) (λ n. (k : ℕ) → k < l.value-index → IsLow (known (program_of s) n (get_or l.values k None)));
}
