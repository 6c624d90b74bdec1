-- Tokens by their number in a file.
use Rattle.std.specs.Prelude.{ℕ, List, [], Option, Some, None, slice_get}
use Rattle.rag_io.specs.declared.token.Place.{Place}
use Rattle.rag_io.specs.Tokens.{Lexed}

abbrev pub text_in : Option Lexed → List ℕ
text_in None = []
text_in (Some t) = t.text

-- the text of the token of this number
abbrev pub text_at : List Lexed → ℕ → List ℕ
text_at ts k = text_in (slice_get ts k)

-- the place at which a text begins
abbrev pub first_line_start : Place
first_line_start = record { line = 1; column = 1 }

abbrev pub place_in : Option Lexed → Place
place_in None = first_line_start
place_in (Some t) = t.place

-- the place of the token of this number
abbrev pub place_at : List Lexed → ℕ → Place
place_at ts k = place_in (slice_get ts k)
