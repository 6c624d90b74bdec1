-- Which symbols of the printed grammar derive a part of each sort, and what may go on behind them, with tests that compute.
use Rattle.std.proofs.Common.{ℕ, zero, ◌==◌, min, not, Bool, true, false, ◌&&◌, List, [], ◌∷◌, ◌++◌, Option, Some, None}
use Rattle.ll_parser.specs.declared.symbols.Symbol.{Symbol}
use Rattle.ll_parser.specs.declared.symbols.Symbol.TheVariants.{Terminal, Nonterminal, Action}
use Rattle.ll_parser.specs.Grammar.{shift}
use Rattle.ll_parser.specs.Table.{every, entry}
use Rattle.jrag_syntax.specs.JragPrintedGrammar.{jrag_printed_grammar}
use Rattle.jrag_reader.specs.Forms.{Sort}
use Rattle.jrag_reader.specs.Forms as sorts
use Rattle.jrag_reader.proofs.Inclusions.{leads}

abbrev pub only : ℕ → List Symbol
only n = Nonterminal n ∷ []

-- the symbols of an expression of each level, and what may go on behind them
abbrev pub level_whole : ℕ → List Symbol
level_whole l = entry [] (
    only 20 ∷ only 22 ∷ only 24 ∷ only 26 ∷ only 28 ∷ only 30 ∷ only 32 ∷ only 34 ∷ only 35 ∷ only 36 ∷ (Nonterminal 38 ∷ Nonterminal 37 ∷ []) ∷ only 38 ∷ []) l

abbrev pub level_rest : ℕ → List Symbol
level_rest l = entry [] ([] ∷ only 23 ∷ only 25 ∷ only 27 ∷ only 29 ∷ only 31 ∷ only 33 ∷ [] ∷ [] ∷ [] ∷ only 37 ∷ [] ∷ []) l

-- the symbols of each sort but those of tokens
abbrev pub whole_of : Sort → List Symbol
whole_of (sorts.OneOf cs) = []
whole_of sorts.Word = Nonterminal 18 ∷ Action 3 ∷ []
whole_of sorts.Quantifier = Nonterminal 40 ∷ Action 3 ∷ []
whole_of (sorts.Expression l) = level_whole (min l 11)
whole_of sorts.Sourced = Nonterminal 39 ∷ Nonterminal 37 ∷ []
whole_of sorts.Arguments = only 41
whole_of sorts.SomeArguments = only 41
whole_of sorts.OfType = only 16
whole_of sorts.Parameters = only 14
whole_of sorts.SomeParameters = only 14
whole_of sorts.Lazy = only 7
whole_of sorts.HigherOrder = only 6
whole_of sorts.Absent = Action 36 ∷ []
whole_of sorts.Modifiers = only 5
whole_of sorts.Circularity = only 8
whole_of sorts.Body = only 9
whole_of sorts.Condition = only 13
whole_of sorts.Path = only 10
whole_of sorts.Method = only 11
whole_of sorts.Root = only 12
whole_of sorts.Item = only 4
whole_of sorts.Aspects = Action 26 ∷ Nonterminal 2 ∷ []
whole_of sorts.Opened = Action 26 ∷ Nonterminal 2 ∷ []

-- what may go on behind a part of each sort
abbrev pub rest_of : Sort → List Symbol
rest_of (sorts.Expression l) = level_rest (min l 11)
rest_of sorts.Sourced = only 37
rest_of sorts.SomeArguments = only 42
rest_of sorts.SomeParameters = only 15
rest_of sorts.Aspects = only 2
rest_of sorts.Opened = Nonterminal 3 ∷ Terminal 34 ∷ Action 29 ∷ Nonterminal 2 ∷ []
rest_of _ = []

-- the classes of a sort of tokens
abbrev pub classes_in : Sort → Option (List ℕ)
classes_in (sorts.OneOf cs) = Some cs
classes_in _ = None

-- whether a test passes for the symbols of a sort; for those of tokens, at each of their classes
abbrev pub each_choice : Sort → (List Symbol → Bool) → Bool
each_choice s f = elim (classes_in s) [ None ↦ f (whole_of s) | (Some cs) ↦ every (λ c. f (Terminal c ∷ [])) cs ]

-- Forms that begin and end their expressions: their expressions are outermost ones.
abbrev pub begins_and_ends : Sort → Bool
begins_and_ends sorts.Circularity = true
begins_and_ends sorts.Body = true
begins_and_ends sorts.Condition = true
begins_and_ends sorts.Item = true
begins_and_ends _ = false

abbrev pub is_outermost : Bool → Sort → Bool
is_outermost true (sorts.Expression zero) = true
is_outermost _ _ = false

abbrev pub wrapped : Bool → List Symbol → List Symbol
wrapped true w = Action 1 ∷ w ++ Action 2 ∷ []
wrapped false w = w

-- whether a test passes for the symbols of some parts, the last one first
abbrev pub each_spelling : Bool → List Sort → (List Symbol → Bool) → Bool
each_spelling outer [] f = f []
each_spelling outer (s ∷ sorts) f = each_spelling outer sorts (λ x. each_choice s (λ w. f (x ++ wrapped (is_outermost outer s) w)))

abbrev pub does_lead : List Symbol → List Symbol → Bool
does_lead a b = leads jrag_printed_grammar 60 a b

-- Nothing has to go on behind a sort.
abbrev pub is_closed : Sort → Bool
is_closed s = does_lead [] (rest_of s)

abbrev pub all_closed : List Sort → Bool
all_closed [] = true
all_closed (s ∷ sorts) = is_closed s && all_closed sorts

-- Some symbols w with others behind them are a whole: the others go on behind w, or stand behind what has nothing more behind it.
abbrev pub covers : List Symbol → List Symbol → List Symbol → List Symbol → Bool
covers rest w tail whole = elim (does_lead tail rest) [
  | true ↦ does_lead w whole
  | false ↦ elim (does_lead [] rest) [ true ↦ does_lead (w ++ tail) whole | false ↦ false ]
]

-- the first of some parts, and the others, where the last one stands first
abbrev pub first_of : Sort → List Sort → Sort
first_of s [] = s
first_of s (t ∷ sorts) = first_of t sorts

abbrev pub others_of : Sort → List Sort → List Sort
others_of s [] = []
others_of s (t ∷ sorts) = s ∷ others_of t sorts

-- Parts of these sorts, and an action behind them, are a whole.
abbrev pub parts_fit : ℕ → Bool → List Sort → Sort → Bool
parts_fit action outer [] whole = does_lead (Action action ∷ rest_of whole) (whole_of whole)
parts_fit action outer (s ∷ sorts) whole =
    all_closed (others_of s sorts) && each_spelling outer (others_of s sorts) (λ x. each_choice (first_of s sorts) (λ w.
    covers (rest_of (first_of s sorts)) w (x ++ Action action ∷ rest_of whole) (whole_of whole)))

abbrev pub is_no_token : Sort → Bool
is_no_token s = elim (classes_in s) [ None ↦ true | (Some cs) ↦ false ]

abbrev pub form_fits : ℕ → List Sort → Sort → Bool
form_fits action parts whole = not (action == shift) && (is_no_token whole && parts_fit action (begins_and_ends whole) parts whole)

-- A part of the first sort is one of the second.
abbrev pub also_fits : Sort → Sort → Bool
also_fits s r = each_choice s (λ w. covers (rest_of s) w (rest_of r) (whole_of r))
