-- How far values may still go in inner rounds.
use Rattle.std.specs.Prelude.{◌≡◌, ℕ, ◌<◌, ◌-◌, cond, List, Option, Some, None, length, sum_by}
use Rattle.plain_rounds.specs.declared.values.NamedValue.{NamedValue}
use Rattle.equation_law.specs.declared.coding.Value.{Value as CodedValue}
use Rattle.equation_law.specs.Codes.{ByEachNaming, Naming, value_by}
use Rattle.equation_law.specs.Program.{Program}
use Rattle.equation_law.specs.Values.{Value, size_of, truth}
use Rattle.plain_rounds.specs.Steps.{known, known_at}

-- how high a value is: 1 for true, and for a set how many elements it has
abbrev pub height : Value → ℕ
height v = cond (truth v) 1 (size_of v)

-- more elements than a set can have in memory
abbrev pub top : ℕ
top = 18446744073709551616

abbrev pub IsLow : Option Value → Type 0
IsLow None = Unit {0}
IsLow (Some v) = height v < top

-- a value may rise up to there, and then be dropped
abbrev pub room : Option Value → ℕ
room None = 0
room (Some v) = top - height v

-- the sum of the rooms of some values, which are all low
pub record AreRooms (p : Program) (N : Naming) (values : List (Option NamedValue)) (n : ℕ) : Type 0 where
  pub sum : n ≡ sum_by (λ v. room (known p N v)) values
  pub low : (k : ℕ) → k < length values → IsLow (known_at p N values k)

-- by each naming it is the height of the value, the room of what is held, which is low, and the sum of the rooms of all that are held
abbrev pub IsHeightOf : Program → CodedValue → ℕ → Type 0
IsHeightOf p v h = ByEachNaming p (λ n. h ≡ height (value_by n v))

abbrev pub IsRoomOf : Program → Option NamedValue → ℕ → Type 0
IsRoomOf p held r = ByEachNaming p (λ n. r ≡ room (known p n held))

abbrev pub HasLowValue : Program → Option NamedValue → Type 0
HasLowValue p held = ByEachNaming p (λ n. IsLow (known p n held))

abbrev pub AreRoomsOf : Program → List (Option NamedValue) → ℕ → Type 0
AreRoomsOf p values r = ByEachNaming p (λ n. AreRooms p n values r)
