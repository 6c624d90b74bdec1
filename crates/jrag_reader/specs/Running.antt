-- Reading the events of a sentence one by one: a token goes onto a stack of parts, and an action makes a part of those on top.
use Rattle.std.specs.Prelude.{ℕ, ◌+◌, ◌==◌, List, [], ◌∷◌, Option, Some, slice_get, if◌then◌else◌}
use Rattle.std.specs.Option.{option_and_then, option_map}
use Rattle.ll_parser.specs.Grammar.{shift}
use Rattle.rag_io.specs.Tokens.{Lexed}
use Rattle.jrag_syntax.specs.declared.classes.Start.{Start}
use Rattle.jrag_reader.specs.Making.{make}
use Rattle.jrag_reader.specs.Parts.{Part, Token}
use Rattle.token_texts.specs.Texts.{text_code}

-- how many tokens were read, and the parts, the last one first
pub record Progress : Type 0 where
  pub at : ℕ
  pub parts : List Part

abbrev pub nothing : Progress
nothing = record { at = 0; parts = [] }

abbrev pub shifted : List (List ℕ) → List Lexed → Progress → Option Progress
shifted texts ts p = option_map (λ t. record { at = p.at + 1; parts = Token t (text_code texts t) ∷ p.parts }) (slice_get ts p.at)

abbrev pub acted : Start → ℕ → Progress → Option Progress
acted start e p = option_map (λ parts. record { at = p.at; parts = parts }) (make start e p.parts)

module _ (start : Start) (texts : List (List ℕ)) (ts : List Lexed) where
  abbrev pub step : Progress → ℕ → Option Progress
  step p e = if e == shift then shifted texts ts p else acted start e p

  abbrev pub run : Progress → List ℕ → Option Progress
  run p [] = Some p
  run p (e ∷ es) = option_and_then (λ q. run q es) (step p e)
