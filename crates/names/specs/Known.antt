-- What some names tell of a list of names.
use Rattle.std.specs.Prelude.{◌≡◌, ℕ, List, Bool, true}
use Rattle.std.specs.Str.{bytes_eq}
use Rattle.rag_io.specs.Distinct.{are_distinct}
use Rattle.names.specs.Among.{is_among}

-- the names are those that the test knows
pub record Knows (names : List (List ℕ)) (known : List ℕ → Bool) : Type 0 where
  pub knows : (name : List ℕ) → is_among names name ≡ known name

-- the names are those of the list in their order, where none stands twice: so a name's number is its place in the list
pub record Numbers (names list : List (List ℕ)) : Type 0 where
  pub numbers : are_distinct bytes_eq list ≡ true → names ≡ list
