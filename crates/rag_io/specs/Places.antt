-- Places in a text, one ahead of another.
use Rattle.std.specs.Prelude.{◌≡◌, ◌<◌, ◌⊎◌, ℕ, List, Some, slice_get}
use Rattle.rag_io.specs.declared.token.Place.{Place}
use Rattle.rag_io.specs.Tokens.{Lexed}

-- the first place stands before the second
abbrev pub IsAhead : Place → Place → Type 0
IsAhead p q = (p.line < q.line) ⊎ ((p.line ≡ q.line) × (p.column < q.column))

-- each token stands before the later ones
abbrev pub PlacesRise : List Lexed → Type 0
PlacesRise ts = (i j : ℕ) (t u : Lexed) → i < j → slice_get ts i ≡ Some t → slice_get ts j ≡ Some u → IsAhead t.place u.place
