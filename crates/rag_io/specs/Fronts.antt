-- What begins at the front of some bytes, computed.
use Rattle.std.specs.Prelude.{ℕ, ◌+◌, ◌<◌, ◌≤◌, List, [], ◌∷◌, Bool, true, false, ◌&&◌, Option, Some, None, length, codes, ◌==◌, if◌then◌else◌, take_while, drop, nat_eq}
use Rattle.std.specs.List.{starts_with, list_any}
use Rattle.rag_io.specs.declared.token.TokenKind.TheVariants as kinds
use Rattle.rag_io.specs.declared.lexeme.TextStep.{TextStep}
use Rattle.rag_io.specs.declared.lexeme.TextStep.TheVariants.{Inside, Closes, Breaks}
use Rattle.rag_io.specs.declared.lexeme.Lexeme.{Lexeme}
use Rattle.rag_io.specs.declared.lexeme.Lexeme.TheVariants.{Nothing, Blank, Token, Bad}
use Rattle.rag_io.specs.Lexemes.{is_white, is_digit, begins_name, goes_on_name, is_plain, is_escape, is_no_line_feed, quote, backslash, symbols}

-- the first byte is this one
abbrev pub begins : ℕ → List ℕ → Bool
begins b [] = false
begins b (x ∷ bytes) = x == b

-- how many bytes at the front pass the test
abbrev pub run : (ℕ → Bool) → List ℕ → ℕ
run test bytes = length (take_while test bytes)

-- one more than a number, if there is one
abbrev pub one_more : Option ℕ → Option ℕ
one_more None = None
one_more (Some n) = Some (n + 1)

-- what a byte does to a text: `escaped` says that a backslash stands before
abbrev pub text_step : Bool → ℕ → TextStep
text_step true b = if is_escape b then Inside false else Breaks
text_step false b = if b == quote then Closes else (if b == backslash then Inside true else (if is_plain b then Inside false else Breaks))

-- How many bytes lead from behind the opening quote of a text to behind its closing one, where the text is closed and well formed.
unfoldable pub text_end : Bool → List ℕ → Option ℕ
text_end escaped [] = None
text_end escaped (b ∷ bytes) = elim (text_step escaped b) [ Inside next ↦ one_more (text_end next bytes) | Closes ↦ Some 1 | Breaks ↦ None ]

-- a star, and a slash behind it
abbrev pub closes_comment : ℕ → List ℕ → Bool
closes_comment b bytes = (b == 42) && begins 47 bytes

-- how many bytes lead to behind the first `*/`
unfoldable pub comment_end : List ℕ → Option ℕ
comment_end [] = None
comment_end (b ∷ bytes) = if closes_comment b bytes then Some 2 else one_more (comment_end bytes)

-- the first of the signs with which the bytes begin
unfoldable pub first_sign : List (List ℕ) → List ℕ → Option (List ℕ)
first_sign [] bytes = None
first_sign (sign ∷ signs) bytes = if starts_with nat_eq bytes sign then Some sign else first_sign signs bytes

-- how many bytes a lexeme takes: at least one, and no more than there are
abbrev pub Takes : ℕ → Lexeme → Type 0
Takes all Nothing = Unit {0}
Takes all (Blank n) = (0 < n) × (n ≤ all)
Takes all (Token kind n) = (0 < n) × (n ≤ all)
Takes all Bad = Unit {0}

-- a text, from its opening quote
abbrev pub text_front : Option ℕ → Lexeme
text_front None = Bad
text_front (Some n) = Token kinds.Text (n + 1)

-- a comment, from its `/*`
abbrev pub comment_front : Option ℕ → Lexeme
comment_front None = Bad
comment_front (Some n) = Blank (n + 2)

-- the signs that begin no longer one
abbrev pub is_lone : ℕ → Bool
is_lone b = list_any (λ sign. b == sign) (codes ";,.()[]{}?+-*/@")

-- the signs that an equals sign behind makes longer ones
abbrev pub takes_equals : ℕ → Bool
takes_equals b = list_any (λ sign. b == sign) (codes "=!<>")

-- How many bytes the symbol takes that begins with this byte: none where no symbol begins. It is proved to be the first sign of the table.
abbrev pub symbol_length : ℕ → List ℕ → ℕ
symbol_length b more = if b == 58 then (if starts_with nat_eq more (codes ":=") then 3 else 1)
    else (if b == 38 then (if begins 38 more then 2 else 0)
    else (if b == 124 then (if begins 124 more then 2 else 1)
    else (if takes_equals b then (if begins 61 more then 2 else 1)
    else (if is_lone b then 1 else 0))))

-- a symbol
abbrev pub symbol_front : Option (List ℕ) → Lexeme
symbol_front None = Bad
symbol_front (Some sign) = Token kinds.Symbol (length sign)

-- what begins at the front
unfoldable pub lexeme_of : List ℕ → Lexeme
lexeme_of [] = Nothing
lexeme_of (b ∷ bytes) = if is_white b then Blank 1
    else (if begins_name b then Token kinds.Name (run goes_on_name bytes + 1)
    else (if is_digit b then Token kinds.Int (run is_digit bytes + 1)
    else (if b == quote then text_front (text_end false bytes)
    else (if (b == 47) && begins 47 bytes then Blank (run is_no_line_feed bytes + 1)
    else (if (b == 47) && begins 42 bytes then comment_front (comment_end (drop 1 bytes))
    else symbol_front (first_sign symbols (b ∷ bytes)))))))
