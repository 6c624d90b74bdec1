-- How a text is printed.
use Rattle.std.specs.Prelude.{ℕ, List, [], ◌∷◌, ◌++◌, ◌==◌, if◌then◌else◌}
use Rattle.std.specs.List.{flat_map}
use Rattle.rag_io.specs.Lexemes.{quote, backslash}

-- a byte inside a text: a quote, a backslash, a line feed, a tab and a carriage return are printed by their escapes, every other byte as
-- it is
abbrev pub escaped : ℕ → List ℕ
escaped b =
    if b == quote then backslash ∷ quote ∷ []
    else if b == backslash then backslash ∷ backslash ∷ []
    else if b == 10 then backslash ∷ 110 ∷ []
    else if b == 9 then backslash ∷ 116 ∷ []
    else if b == 13 then backslash ∷ 114 ∷ []
    else b ∷ []

-- a text in its quotes
abbrev pub quoted : List ℕ → List ℕ
quoted text = quote ∷ (flat_map escaped text ++ quote ∷ [])
