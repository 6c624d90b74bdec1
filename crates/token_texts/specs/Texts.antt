-- The texts that tokens write go into a pool: their numbers there, and the rule that one too many breaks.
use Rattle.std.specs.Prelude.{◌≡◌, ℕ, List, [], ◌∷◌, ◌++◌, All, Bool, ◌&&◌, nat_le, Option, Some, None, is_none, length, if◌then◌else◌}
use Rattle.broken_rules.specs.declared.broken.Broken.{Broken}
use Rattle.broken_rules.specs.declared.rule.Rule.{Rule}
use Rattle.broken_rules.specs.Notes.{at, broken_if}
use Rattle.rag_io.specs.declared.token.Place.{Place}
use Rattle.rag_io.specs.declared.token.TokenKind.{TokenKind}
use Rattle.rag_io.specs.declared.token.TokenKind.TheVariants as kinds
use Rattle.rag_io.specs.Pool.{most_texts, number_of, with_text}
use Rattle.rag_io.specs.Tokens.{Lexed}
use Rattle.rag_io.specs.Unquoted.{IsQuoted, meant}

-- each text among the tokens has its quotes
abbrev pub AllQuoted : List Lexed → Type 0
AllQuoted ts = All (λ (t : Lexed). t.kind ≡ kinds.Text → IsQuoted t.text) ts

abbrev pub or_zero : Option ℕ → ℕ
or_zero None = 0
or_zero (Some n) = n

abbrev pub code_by_kind : List (List ℕ) → TokenKind → List ℕ → ℕ
code_by_kind pool kinds.Name text = 0
code_by_kind pool kinds.Int text = 0
code_by_kind pool kinds.Text text = or_zero (number_of pool (meant text))
code_by_kind pool kinds.Symbol text = 0
code_by_kind pool kinds.End text = 0

-- the number in the pool of the text that a token writes, 0 for other tokens
abbrev pub text_code : List (List ℕ) → Lexed → ℕ
text_code pool t = code_by_kind pool t.kind t.text

-- the text is new, and the pool is full
abbrev pub is_past : List (List ℕ) → List ℕ → Bool
is_past pool text = is_none (number_of pool text) && nat_le most_texts (length pool)

-- the pool with one more text, if there is room
abbrev pub pooled : List (List ℕ) → List ℕ → List (List ℕ)
pooled pool text = if is_past pool text then pool else with_text pool text

-- the pool with the text that a token writes, if it is one
abbrev pub pooled_by_kind : List (List ℕ) → TokenKind → List ℕ → List (List ℕ)
pooled_by_kind pool kinds.Name text = pool
pooled_by_kind pool kinds.Int text = pool
pooled_by_kind pool kinds.Text text = pooled pool (meant text)
pooled_by_kind pool kinds.Symbol text = pool
pooled_by_kind pool kinds.End text = pool

-- and with those of some tokens
abbrev pub pooled_texts : List (List ℕ) → List Lexed → List (List ℕ)
pooled_texts pool [] = pool
pooled_texts pool (t ∷ ts) = pooled_texts (pooled_by_kind pool t.kind t.text) ts

-- the rule is broken where the text that this token writes would be the 65,537th
abbrev pub past_broken : Rule → List (List ℕ) → Lexed → List Broken
past_broken rule pool t = broken_if (is_past pool (meant t.text)) (at t.place rule)

-- so it is of a text token, and of no other
abbrev pub text_broken : Rule → List (List ℕ) → TokenKind → List ℕ → Place → List Broken
text_broken rule pool kinds.Name text p = []
text_broken rule pool kinds.Int text p = []
text_broken rule pool kinds.Text text p = broken_if (is_past pool (meant text)) (at p rule)
text_broken rule pool kinds.Symbol text p = []
text_broken rule pool kinds.End text p = []

abbrev pub texts_broken : Rule → List (List ℕ) → List Lexed → List Broken
texts_broken rule pool [] = []
texts_broken rule pool (t ∷ ts) = text_broken rule pool t.kind t.text t.place ++ texts_broken rule (pooled_by_kind pool t.kind t.text) ts

-- The pool holds what it held, and perhaps further texts last.
pub record Extends (old new : List (List ℕ)) : Type 0 where
  pub more : List (List ℕ)
  pub are : new ≡ old ++ more
