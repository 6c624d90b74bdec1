-- The queries that are read so far: lines `@NUMBER.NAME()`, where the name is that of an attribute without parameters or of an accessor without arguments.
use Rattle.std.specs.Prelude.{◌≡◌, ◌==◌, ℕ, ◌≤◌, List, [], ◌∷◌, ◌++◌, Bool, true, false, not, Option, Some, None, Result, Ok, Err, Vec, map, length, codes, if◌then◌else◌, slice_get}
use Rattle.std.specs.List.{AllPass}
use Rattle.std.specs.Option.{option_map}
use Rattle.std.specs.Str.{bytes_eq}
use Rattle.std.specs.declared.alloc.Global.{Global}
use Rattle.rag_io.specs.Lexemes.{is_white}
use Rattle.rag_io.specs.Tokens.{Lexed, IsTokens, first_place}
use Rattle.rag_io.specs.declared.Memory.{Memory}
use Rattle.rag_io.specs.declared.token.TokenKind.{TokenKind}
use Rattle.rag_io.specs.declared.token.TokenKind.TheVariants as tokens
use Rattle.ll_parser.specs.Grammar.{IsSentence}
use Rattle.ast_grammar.specs.declared.grammar.ClassId.{ClassId}
use Rattle.ast_grammar.specs.Grammar.{Class}
use Rattle.attr_rules.specs.declared.queries.QueryEq.{QueryEq}
use Rattle.attr_rules.specs.Queries.{Query, query_of}
use Rattle.attr_rules.specs.Rules.{RuleSet}
use Rattle.attr_types.specs.Asked.{query_named}
use Rattle.tree_arena.specs.Nodes.{Node}
use Rattle.program_reader.specs.QueryGrammar.{query_grammar}
use Rattle.program_reader.specs.Names.{is_name}
use Rattle.rag_io.specs.Decimal.{decimal}
use Rattle.program_reader.specs.Tokens.{place_at, text_at}

abbrev pub symbol_class : List ℕ → ℕ
symbol_class text =
    if bytes_eq text (codes "@") then 3 else if bytes_eq text (codes ".") then 4
    else if bytes_eq text (codes "(") then 5 else if bytes_eq text (codes ")") then 6 else 7

abbrev pub class_of_parts : TokenKind → List ℕ → ℕ
class_of_parts tokens.Name text = if is_name text then 1 else 7
class_of_parts tokens.Int text = 2
class_of_parts tokens.Text text = 7
class_of_parts tokens.Symbol text = symbol_class text
class_of_parts tokens.End text = 0

abbrev pub query_class : Lexed → ℕ
query_class t = class_of_parts t.kind t.text

-- The tokens of a line say this query: the accessor or the attribute of that name of the node's class, at the node, which takes no arguments.
pub record SaysQuery (g : List Class) (rules : RuleSet) (tree : List Node) (ts : List Lexed) (e : Query) : Type 0 where
  pub events : List ℕ
  pub sentence : IsSentence query_grammar 0 (map query_class ts) events
  pub class : ClassId
  pub node : option_map (λ n. n.class) (slice_get tree (decimal (text_at ts 1))) ≡ Some class
  pub is : query_named g rules (decimal (text_at ts 1)) class (text_at ts 3) (place_at ts 3) ≡ Some e

-- no byte of a line is a line feed
abbrev pub is_inside : ℕ → Bool
is_inside b = not (b == 10)

-- The lines of some bytes: each ends with a line feed, but for a last one that has none. A last line feed begins
-- no further line.
pub data AreLines : List ℕ → List (List ℕ) → Type 0 where
  none : AreLines [] []
  last : {b : ℕ} {line : List ℕ} → AllPass is_inside (b ∷ line) → AreLines (b ∷ line) ((b ∷ line) ∷ [])
  more : {line rest : List ℕ} {lines : List (List ℕ)} → AllPass is_inside line → AreLines rest lines → AreLines (line ++ 10 ∷ rest) (line ∷ lines)

-- a line that holds white space only, or a `#` as its first byte that isn't white space
abbrev pub is_silent : List ℕ → Bool
is_silent [] = true
is_silent (b ∷ line) = if is_white b then is_silent line else b == 35

-- The lines say these queries, one for each that isn't silent.
pub data SaysLines (g : List Class) (rules : RuleSet) (tree : List Node) : List (List ℕ) → List Query → Type 0 where
  over : SaysLines g rules tree [] []
  silent : {line : List ℕ} {lines : List (List ℕ)} {es : List Query} → is_silent line ≡ true → SaysLines g rules tree lines es → SaysLines g rules tree (line ∷ lines) es
  query : {line : List ℕ} {lines : List (List ℕ)} {e : Query} {es : List Query} {ts : List Lexed} → is_silent line ≡ false
      → IsTokens first_place line ts → SaysQuery g rules tree ts e → SaysLines g rules tree lines es → SaysLines g rules tree (line ∷ lines) (e ∷ es)

abbrev pub most_lines : ℕ
most_lines = 65536

-- The bytes of a query file say these queries.
pub record SaysQueries (g : List Class) (rules : RuleSet) (tree : List Node) (bytes : List ℕ) (es : List Query) : Type 0 where
  pub lines : List (List ℕ)
  pub are_lines : AreLines bytes lines
  pub few : length lines ≤ most_lines
  pub said : SaysLines g rules tree lines es

-- what reading the bytes of a query file answers
abbrev pub AnswersQueries : List Class → RuleSet → List Node → List ℕ → Result (Option (Vec QueryEq Global)) Memory → Type 0
AnswersQueries g rules tree bytes (Ok (Some list)) = SaysQueries g rules tree bytes (map query_of list.items)
AnswersQueries g rules tree bytes (Ok None) = (es : List Query) → SaysQueries g rules tree bytes es → ⊥
AnswersQueries g rules tree bytes (Err m) = Unit {0}
