-- The classes of tokens, in the numbers of the grammar.
use Rattle.std.specs.Prelude.{ℕ, List, codes, if◌then◌else◌}
use Rattle.std.specs.Str.{bytes_eq}
use Rattle.rag_io.specs.Tokens.{Lexed}
use Rattle.rag_io.specs.declared.token.TokenKind.{TokenKind}
use Rattle.rag_io.specs.declared.token.TokenKind.TheVariants.{Name, Int, Text, Symbol, End}

-- `true` and `false` are words of their own
abbrev pub word_class : List ℕ → ℕ
word_class text = if bytes_eq text (codes "true") then 2 else if bytes_eq text (codes "false") then 3 else 1

-- the class of a sign
abbrev pub sign_class : List ℕ → ℕ
sign_class text =
    if bytes_eq text (codes "(") then 6
    else if bytes_eq text (codes ")") then 7
    else if bytes_eq text (codes "[") then 8
    else if bytes_eq text (codes "]") then 9
    else if bytes_eq text (codes ",") then 10
    else if bytes_eq text (codes "-") then 11
    else 12

-- the class of a token by its kind and text: the other signs stand in no tree
abbrev pub class_of_parts : TokenKind → List ℕ → ℕ
class_of_parts Name text = word_class text
class_of_parts Symbol text = sign_class text
class_of_parts End text = 0
class_of_parts Int text = 5
class_of_parts Text text = 4

abbrev pub token_class : Lexed → ℕ
token_class t = class_of_parts t.kind t.text
