-- What a text in quotes stands for.
use Rattle.std.specs.Prelude.{ℕ, List, [], ◌∷◌, IsTrue, ◌==◌, if◌then◌else◌}
use Rattle.rag_io.specs.Lexemes.{quote, backslash, is_plain, is_escape, TextBody}

-- a text with its quotes, as a token has it
pub data IsQuoted : List ℕ → Type 0 where
  quoted : {body : List ℕ} → TextBody body → IsQuoted (quote ∷ body)

-- the byte that an escape stands for, by the byte behind its backslash: line feed for `n`, tab for `t`, carriage return for `r`, and the
-- quote and the backslash for themselves
abbrev pub unescaped : ℕ → ℕ
unescaped b = if b == 110 then 10 else (if b == 116 then 9 else (if b == 114 then 13 else b))

-- What a text stands for behind its opening quote: each plain byte for itself, each escape for its byte, and the closing quote for nothing.
pub data BodyStandsFor : List ℕ → List ℕ → Type 0 where
  closed : BodyStandsFor (quote ∷ []) []
  plain : {body bytes : List ℕ} (b : ℕ) → IsTrue (is_plain b) → BodyStandsFor body bytes → BodyStandsFor (b ∷ body) (b ∷ bytes)
  escape : {body bytes : List ℕ} (b : ℕ) → IsTrue (is_escape b) → BodyStandsFor body bytes
      → BodyStandsFor (backslash ∷ (b ∷ body)) (unescaped b ∷ bytes)

-- What a text stands for, with its opening quote.
pub data StandsFor : List ℕ → List ℕ → Type 0 where
  unquoted : {body bytes : List ℕ} → BodyStandsFor body bytes → StandsFor (quote ∷ body) bytes

-- what a text stands for behind its opening quote, computed
abbrev pub body_meant : List ℕ → List ℕ
body_meant [] = []
body_meant (b ∷ []) = []
body_meant (b ∷ (c ∷ body)) = if b == backslash then unescaped c ∷ body_meant body else (b ∷ body_meant (c ∷ body))

-- and with its opening quote
abbrev pub meant : List ℕ → List ℕ
meant [] = []
meant (b ∷ body) = body_meant body
