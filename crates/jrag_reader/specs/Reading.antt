-- What reading aspects and single expressions answers.
use Rattle.std.specs.Prelude.{◌≡◌, ℕ, List, [], ◌∷◌, ◌++◌, Some, None, take}
use Rattle.broken_rules.specs.Answers.{Answers}
use Rattle.broken_rules.specs.declared.broken.Broken.{Broken}
use Rattle.rag_io.specs.Tokens.{Lexed}
use Rattle.token_texts.specs.Texts.{pooled_texts}
use Rattle.jrag_syntax.specs.Reading.{SaysEvents, StopsWith}
use Rattle.jrag_syntax.specs.Tokens.{token_class}
use Rattle.jrag_syntax.specs.declared.classes.Start.{Start}
use Rattle.jrag_syntax.specs.declared.classes.Start.TheVariants as starts
use Rattle.aspect_items.specs.Expressions.{Expr}
use Rattle.jrag_reader.specs.Forms.{Sort, Expression, Aspects, choice}
use Rattle.aspect_items.specs.Items.{Item}
use Rattle.aspect_limits.specs.Limits.{limits_broken}
use Rattle.jrag_reader.specs.Parts.{Part, Items, expr_in}
use Rattle.jrag_reader.specs.Saying.{Says}

-- the sort of what some tokens are to be
abbrev pub sort_of : Start → Sort
sort_of starts.File = Aspects
sort_of starts.Expression = Expression choice

-- The tokens of a file or of a single expression say this part, and the end follows.
pub record SaysPart (start : Start) (texts : List (List ℕ)) (ts : List Lexed) (p : Part) : Type 0 where
  pub front : List Lexed
  pub end : Lexed
  pub are : ts ≡ front ++ end ∷ []
  pub ends : token_class start end ≡ 0
  pub says : Says start texts (sort_of start) front p

-- The tokens say this part, with the texts that a pool then holds: they are a sentence, and none of them is one too many.
pub record SaysWhole (start : Start) (pool : List (List ℕ)) (ts : List Lexed) (p : Part) : Type 0 where
  pub events : List ℕ
  pub sentence : SaysEvents start ts events
  pub within : Answers (limits_broken pool ts events ∷ []) None
  pub part : SaysPart start (pooled_texts pool ts) ts p

-- the tokens of a file say these items
abbrev pub SaysItems : List (List ℕ) → List Lexed → List Item → Type 0
SaysItems pool ts items = SaysWhole starts.File pool ts (Items items)

-- the tokens of a single expression say this one
pub record SaysExpr (pool : List (List ℕ)) (ts : List Lexed) (e : Expr) : Type 0 where
  pub part : Part
  pub is : expr_in part ≡ Some e
  pub says : SaysWhole starts.Expression pool ts part

-- The first broken rule of some tokens: of a fault of the syntax and of the tokens before it that are too many; or of those of a sentence.
pub data IsFirstBroken (start : Start) (pool : List (List ℕ)) (ts : List Lexed) (b : Broken) : Type 0 where
  stopped : {fault : Broken} {events : List ℕ} (stops : StopsWith start ts fault events)
      → Answers ((fault ∷ limits_broken pool (take stops.fault.number ts) events) ∷ []) (Some b) → IsFirstBroken start pool ts b
  too_many : {events : List ℕ} → SaysEvents start ts events → Answers (limits_broken pool ts events ∷ []) (Some b) → IsFirstBroken start pool ts b

-- two first broken rules of some tokens are one
abbrev pub BreakOneFirst : Start → List (List ℕ) → List Lexed → Type 0
BreakOneFirst start pool ts = (b c : Broken) → IsFirstBroken start pool ts b → IsFirstBroken start pool ts c → b ≡ c
