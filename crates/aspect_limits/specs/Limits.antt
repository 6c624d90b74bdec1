-- J17 as far as it is of the syntax: an expression that is too long, and a text too many.
use Rattle.std.specs.Prelude.{ℕ, suc, ◌==◌, List, [], ◌∷◌, ◌++◌, Option, Some, None, drop, if◌then◌else◌}
use Rattle.std.specs.Option.{option_map}
use Rattle.broken_rules.specs.declared.broken.Broken.{Broken}
use Rattle.broken_rules.specs.declared.rule.Rule.TheVariants.{J17}
use Rattle.broken_rules.specs.Notes.{at, broken_if}
use Rattle.ll_parser.specs.Grammar.{shift}
use Rattle.rag_io.specs.Tokens.{Lexed}
use Rattle.token_texts.specs.Texts.{texts_broken}

-- an expression that stands in no larger one has at most so many tokens
abbrev pub most_tokens : ℕ
most_tokens = 400

-- how many tokens of such an expression were read, behind an event; None outside of one
abbrev pub counted : ℕ → Option ℕ → Option ℕ
counted e inside =
    if e == shift then option_map suc inside
    else if e == 1 then Some 0
    else if e == 2 then None
    else inside

-- J17: a token stands behind as many of its expression as there may be
abbrev pub long_at : Option ℕ → List Lexed → List Broken
long_at None ts = []
long_at (Some n) [] = []
long_at (Some n) (t ∷ ts) = broken_if (n == most_tokens) (at t.place J17)

abbrev pub long_event : ℕ → Option ℕ → List Lexed → List Broken
long_event e inside ts = if e == shift then long_at inside ts else []

-- the tokens that are left behind an event
abbrev pub left : ℕ → List Lexed → List Lexed
left e ts = if e == shift then drop 1 ts else ts

-- J17 at each 401st token of an outermost expression, by the events of some tokens
abbrev pub long_broken : Option ℕ → List Lexed → List ℕ → List Broken
long_broken inside ts [] = []
long_broken inside ts (e ∷ es) = long_event e inside ts ++ long_broken (counted e inside) (left e ts) es

-- all that tokens with these events break by their number, where the pool holds some texts
abbrev pub limits_broken : List (List ℕ) → List Lexed → List ℕ → List Broken
limits_broken pool ts es = texts_broken J17 pool ts ++ long_broken None ts es
