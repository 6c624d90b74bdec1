-- The classes of tokens, in the numbers of the grammar.
use Rattle.std.specs.Prelude.{ℕ, List, ◌==◌, codes, if◌then◌else◌}
use Rattle.std.specs.Str.{bytes_eq}
use Rattle.rag_io.specs.Tokens.{Lexed}
use Rattle.rag_io.specs.Words.{is_left_out}
use Rattle.rag_io.specs.declared.token.TokenKind.{TokenKind}
use Rattle.rag_io.specs.declared.token.TokenKind.TheVariants.{Name, Int, Text, Symbol, End}
use Rattle.jrag_syntax.specs.declared.classes.Start.{Start}
use Rattle.jrag_syntax.specs.declared.classes.Start.TheVariants.{File, Expression}

-- the class of what stands in no sentence
abbrev pub outside : ℕ
outside = 58

-- no class of a group
abbrev pub unknown : ℕ
unknown = 255

-- a class, or another where it is unknown
abbrev pub known_or : ℕ → ℕ → ℕ
known_or class other = if class == unknown then other else class

-- words that begin aspects and items, and what may stand behind `syn`
abbrev pub item_class : List ℕ → ℕ
item_class text =
    if bytes_eq text (codes "aspect") then 4
    else if bytes_eq text (codes "syn") then 5
    else if bytes_eq text (codes "inh") then 6
    else if bytes_eq text (codes "eq") then 7
    else if bytes_eq text (codes "coll") then 8
    else if bytes_eq text (codes "nta") then 9
    else if bytes_eq text (codes "lazy") then 10
    else unknown

-- words between the parts of a contribution
abbrev pub contribution_class : List ℕ → ℕ
contribution_class text =
    if bytes_eq text (codes "when") then 11
    else if bytes_eq text (codes "to") then 12
    else if bytes_eq text (codes "for") then 13
    else unknown

-- words of expressions that are no names
abbrev pub value_class : List ℕ → ℕ
value_class text =
    if bytes_eq text (codes "new") then 14
    else if bytes_eq text (codes "this") then 15
    else if bytes_eq text (codes "true") then 16
    else if bytes_eq text (codes "false") then 17
    else if bytes_eq text (codes "null") then 18
    else if bytes_eq text (codes "empty") then 19
    else if bytes_eq text (codes "instanceof") then 20
    else unknown

-- words of types
abbrev pub type_class : List ℕ → ℕ
type_class text =
    if bytes_eq text (codes "Set") then 21
    else if bytes_eq text (codes "boolean") then 22
    else if bytes_eq text (codes "int") then 23
    else if bytes_eq text (codes "String") then 24
    else unknown

-- words of their own that may be names too
abbrev pub named_class : List ℕ → ℕ
named_class text =
    if bytes_eq text (codes "contributes") then 25
    else if bytes_eq text (codes "with") then 26
    else if bytes_eq text (codes "root") then 27
    else if bytes_eq text (codes "circular") then 28
    else if bytes_eq text (codes "each") then 29
    else if bytes_eq text (codes "any") then 30
    else if bytes_eq text (codes "all") then 31
    else if bytes_eq text (codes "first") then 32
    else unknown

-- a word that is none of these: a name, where aspects have names by it
abbrev pub name_class : List ℕ → ℕ
name_class text = if is_left_out text then outside else 1

abbrev pub word_class : List ℕ → ℕ
word_class text =
    known_or (item_class text) (known_or (contribution_class text) (known_or (value_class text)
    (known_or (type_class text) (known_or (named_class text) (name_class text)))))

-- brackets
abbrev pub bracket_class : List ℕ → ℕ
bracket_class text =
    if bytes_eq text (codes "{") then 33
    else if bytes_eq text (codes "}") then 34
    else if bytes_eq text (codes "(") then 36
    else if bytes_eq text (codes ")") then 37
    else if bytes_eq text (codes "[") then 38
    else if bytes_eq text (codes "]") then 39
    else unknown

-- signs between parts
abbrev pub separator_class : List ℕ → ℕ
separator_class text =
    if bytes_eq text (codes ".") then 35
    else if bytes_eq text (codes ";") then 40
    else if bytes_eq text (codes ",") then 41
    else if bytes_eq text (codes "=") then 42
    else if bytes_eq text (codes "?") then 43
    else if bytes_eq text (codes ":") then 44
    else if bytes_eq text (codes "|") then 57
    else unknown

-- operators that give truth values
abbrev pub truth_class : List ℕ → ℕ
truth_class text =
    if bytes_eq text (codes "||") then 45
    else if bytes_eq text (codes "&&") then 46
    else if bytes_eq text (codes "==") then 47
    else if bytes_eq text (codes "!=") then 48
    else if bytes_eq text (codes "<") then 49
    else if bytes_eq text (codes "<=") then 50
    else if bytes_eq text (codes ">") then 51
    else if bytes_eq text (codes ">=") then 52
    else unknown

-- the other operators
abbrev pub operator_class : List ℕ → ℕ
operator_class text =
    if bytes_eq text (codes "+") then 53
    else if bytes_eq text (codes "-") then 54
    else if bytes_eq text (codes "*") then 55
    else if bytes_eq text (codes "!") then 56
    else unknown

-- `@` stands in single expressions only
abbrev pub source_class : Start → ℕ
source_class File = outside
source_class Expression = 59

-- a sign that is none of these
abbrev pub last_class : Start → List ℕ → ℕ
last_class start text = if bytes_eq text (codes "@") then source_class start else outside

abbrev pub sign_class : Start → List ℕ → ℕ
sign_class start text =
    known_or (bracket_class text) (known_or (separator_class text) (known_or (truth_class text) (known_or (operator_class text) (last_class start text))))

-- the class of a token by its kind and text
abbrev pub class_of_parts : Start → TokenKind → List ℕ → ℕ
class_of_parts start Name text = word_class text
class_of_parts start Symbol text = sign_class start text
class_of_parts start End text = 0
class_of_parts start Int text = 2
class_of_parts start Text text = 3

abbrev pub token_class : Start → Lexed → ℕ
token_class start t = class_of_parts start t.kind t.text
