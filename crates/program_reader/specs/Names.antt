-- Which words are names in aspects and queries.
use Rattle.std.specs.Prelude.{ℕ, List, Bool, not, ◌||◌}
use Rattle.rag_io.specs.Words.{is_reserved, is_left_out}

-- a word that aspects neither reserve nor leave out
abbrev pub is_name : List ℕ → Bool
is_name text = not (is_reserved text || is_left_out text)
