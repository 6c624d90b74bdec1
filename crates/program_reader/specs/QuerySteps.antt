-- What the steps of the reader of queries answer.
use Rattle.std.specs.Prelude.{◌≡◌, ℕ, ◌+◌, ◌<◌, ◌≤◌, List, [], ◌∷◌, ◌++◌, Bool, true, false, Option, Some, None, Result, Ok, Err, length, slice_get}
use Rattle.std.specs.List.{AllPass}
use Rattle.std.specs.Option.{option_map}
use Rattle.rag_io.specs.Tokens.{Lexed, IsTokens, first_place}
use Rattle.rag_io.specs.declared.Memory.{Memory}
use Rattle.ast_grammar.specs.declared.grammar.ClassId.{ClassId}
use Rattle.ast_grammar.specs.Grammar.{Class}
use Rattle.attr_rules.specs.declared.queries.QueryEq.{QueryEq}
use Rattle.attr_rules.specs.Queries.{Query, query_of}
use Rattle.attr_rules.specs.Rules.{RuleSet}
use Rattle.attr_types.specs.Asked.{query_named}
use Rattle.tree_arena.specs.Nodes.{Node}
use Rattle.program_reader.specs.Tokens.{place_at, text_at}
use Rattle.program_reader.specs.Queries.{SaysQuery, SaysLines, SaysQueries, AreLines, is_inside, is_silent, most_lines}
use Rattle.rag_io.specs.Decimal.{decimal}
use Rattle.rag_io.specs.declared.token.Place.{Place}

-- what looking for the node of a number answers
abbrev pub FindsNode : List Node → List ℕ → Option ℕ → Type 0
FindsNode tree digits None = length tree ≤ decimal digits
FindsNode tree digits (Some n) = (n ≡ decimal digits) × (n < length tree)

-- the accessor or the attribute of this name at the node of this number
pub record IsCall (g : List Class) (rules : RuleSet) (tree : List Node) (digits name : List ℕ) (place : Place) (e : Query) : Type 0 where
  pub class : ClassId
  pub node : option_map (λ n. n.class) (slice_get tree (decimal digits)) ≡ Some class
  pub is : query_named g rules (decimal digits) class name place ≡ Some e

-- what looking for a call answers
abbrev pub AnswersCall : List Class → RuleSet → List Node → List ℕ → List ℕ → Place → Result (Option QueryEq) Memory → Type 0
AnswersCall g rules tree digits name place (Ok (Some q)) = IsCall g rules tree digits name place (query_of q)
AnswersCall g rules tree digits name place (Ok None) = (e : Query) → IsCall g rules tree digits name place e → ⊥
AnswersCall g rules tree digits name place (Err m) = Unit {0}

-- the same of the tokens of a call: its digits stand second, and its name fourth
abbrev pub AnswersCallOf : List Class → RuleSet → List Node → List Lexed → Result (Option QueryEq) Memory → Type 0
AnswersCallOf g rules tree ts result = AnswersCall g rules tree (text_at ts 1) (text_at ts 3) (place_at ts 3) result

-- what reading the tokens of a line answers
abbrev pub AnswersQuery : List Class → RuleSet → List Node → List Lexed → Result (Option QueryEq) Memory → Type 0
AnswersQuery g rules tree ts (Ok (Some q)) = SaysQuery g rules tree ts (query_of q)
AnswersQuery g rules tree ts (Ok None) = (e : Query) → SaysQuery g rules tree ts e → ⊥
AnswersQuery g rules tree ts (Err m) = Unit {0}

-- the bytes of a line say this query
pub record SaysLine (g : List Class) (rules : RuleSet) (tree : List Node) (line : List ℕ) (e : Query) : Type 0 where
  pub tokens : List Lexed
  pub scanned : IsTokens first_place line tokens
  pub says : SaysQuery g rules tree tokens e

-- what reading the bytes of a line answers
abbrev pub AnswersLine : List Class → RuleSet → List Node → List ℕ → Result (Option QueryEq) Memory → Type 0
AnswersLine g rules tree line (Ok (Some q)) = SaysLine g rules tree line (query_of q)
AnswersLine g rules tree line (Ok None) = (e : Query) → SaysLine g rules tree line e → ⊥
AnswersLine g rules tree line (Err m) = Unit {0}

-- the first line of some bytes, and the bytes behind it
pub data IsFirstLine (bytes line rest : List ℕ) : Type 0 where
  ended : AllPass is_inside line → bytes ≡ line ++ 10 ∷ rest → IsFirstLine bytes line rest
  final : AllPass is_inside bytes → line ≡ bytes → rest ≡ [] → IsFirstLine bytes line rest

-- what a line adds to the queries before it
pub data Adds (g : List Class) (rules : RuleSet) (tree : List Node) (line : List ℕ) (old new : List Query) : Type 0 where
  nothing : is_silent line ≡ true → new ≡ old → Adds g rules tree line old new
  one : (e : Query) → is_silent line ≡ false → SaysLine g rules tree line e → new ≡ old ++ e ∷ [] → Adds g rules tree line old new

-- a line that says no query, and isn't silent
pub record IsWrong (g : List Class) (rules : RuleSet) (tree : List Node) (line : List ℕ) : Type 0 where
  pub loud : is_silent line ≡ false
  pub none : (e : Query) → SaysLine g rules tree line e → ⊥

-- what reading a line answers
abbrev pub ReadsLine : List Class → RuleSet → List Node → List ℕ → Result Bool Memory → List Query → List Query → Type 0
ReadsLine g rules tree line (Ok true) old new = Adds g rules tree line old new
ReadsLine g rules tree line (Ok false) old new = IsWrong g rules tree line
ReadsLine g rules tree line (Err m) old new = Unit {0}

-- the bytes behind n lines say these queries
pub record SaysBehind (g : List Class) (rules : RuleSet) (tree : List Node) (n : ℕ) (rest : List ℕ) (es : List Query) : Type 0 where
  pub lines : List (List ℕ)
  pub are_lines : AreLines rest lines
  pub few : n + length lines ≤ most_lines
  pub said : SaysLines g rules tree lines es

-- Behind n lines, with these queries, the rest of the bytes is left.
pub record IsSofar (g : List Class) (rules : RuleSet) (tree : List Node) (bytes : List ℕ) (n : ℕ) (rest : List ℕ) (old : List Query) : Type 0 where
  pub forth : (es : List Query) → SaysBehind g rules tree n rest es → SaysQueries g rules tree bytes (old ++ es)
  pub back : (all : List Query) → SaysQueries g rules tree bytes all → (es : List Query) × (all ≡ old ++ es) × SaysBehind g rules tree n rest es
