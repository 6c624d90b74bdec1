-- What a reader answers of the classes of some tokens.
use Rattle.std.specs.Prelude.{ℕ, List, Option, Some, None, Result, Ok, Err, Vec}
use Rattle.std.specs.declared.alloc.Global.{Global}
use Rattle.rag_io.specs.declared.Memory.{Memory}
use Rattle.ll_parser.specs.Grammar.{Production, Derives, IsSentence, start}

-- the events of the sentence, or that the classes are none
abbrev pub Recognizes : List Production → ℕ → List ℕ → Result (Option (Vec ℕ Global)) Memory → Type 0
Recognizes P n classes (Ok (Some events)) = IsSentence P n classes events.items
Recognizes P n classes (Ok None) = (events : List ℕ) → Derives P (start n) classes events → ⊥
Recognizes P n classes (Err m) = Unit {0}
