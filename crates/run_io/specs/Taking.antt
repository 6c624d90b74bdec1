-- What a sink took.
use Rattle.std.specs.Prelude.{◌≡◌, ℕ, ◌≤◌, List, ◌++◌, length, take, Option, Some, None}

-- a sink that tells took this text
abbrev pub Took : Option (List ℕ) → List ℕ → Option (List ℕ) → Type 0
Took None text new = Unit {0}
Took (Some old) text new = new ≡ Some (old ++ text)

-- it took a front of the text
pub record TookPart (old text : List ℕ) (new : Option (List ℕ)) : Type 0 where
  pub count : ℕ
  pub within : count ≤ length text
  pub took : new ≡ Some (old ++ take count text)

abbrev pub TookSome : Option (List ℕ) → List ℕ → Option (List ℕ) → Type 0
TookSome None text new = Unit {0}
TookSome (Some old) text new = TookPart old text new
