-- The canonical text of a tree.
use Rattle.std.specs.Prelude.{◌≡◌, ℕ, suc, List, [], ◌∷◌, ◌++◌, ◌==◌, Option, Some, None, codes, length, slice_get, if◌then◌else◌, pos}
use Rattle.std.specs.Fmt.{signed_decimal}
use Rattle.std.specs.Int.{int_wrap}
use mir.Syntax.{w32}
use Rattle.rag_io.specs.Quoting.{quoted}
use Rattle.ast_grammar.specs.declared.grammar.Shape.{Shape}
use Rattle.ast_grammar.specs.declared.grammar.Shape.TheVariants as shapes
use Rattle.ast_grammar.specs.Grammar.{Class, Component, components_of}
use Rattle.tree_arena.specs.Nodes.{Node}
use Rattle.tree_arena.specs.Terms.{Forest, Empty, IsTerm, Tree, nodes_of}

-- texts in their order, with a comma and a space between two
abbrev pub further : List (List ℕ) → List ℕ
further [] = []
further (text ∷ texts) = codes ", " ++ (text ++ further texts)

abbrev pub joined : List (List ℕ) → List ℕ
joined [] = []
joined (text ∷ texts) = text ++ further texts

-- the text of a tree, and the component at which it hangs
pub record Piece : Type 0 where
  pub component : ℕ
  pub text : List ℕ

-- the texts of those that hang at component k
abbrev pub texts_at : ℕ → List Piece → List (List ℕ)
texts_at k [] = []
texts_at k (p ∷ pieces) = if p.component == k then p.text ∷ texts_at k pieces else texts_at k pieces

abbrev pub text_or_empty : Option (List ℕ) → List ℕ
text_or_empty None = []
text_or_empty (Some text) = text

abbrev pub truth_text : ℕ → List ℕ
truth_text code = if code == 0 then codes "false" else codes "true"

-- the value of a token by its code: a text in quotes, an integer in decimal digits, perhaps behind a `-`, a truth value
abbrev pub value_text : List (List ℕ) → ℕ → List ℕ
value_text pool code = quoted (text_or_empty (slice_get pool code))

abbrev pub int_text : ℕ → List ℕ
int_text code = signed_decimal (int_wrap w32 (pos code))

-- the argument at a component of this shape, with the code of the token there and the texts of what hangs there: a list and an optional
-- stand in brackets
abbrev pub argument_text : List (List ℕ) → Shape → ℕ → List (List ℕ) → List ℕ
argument_text pool shapes.Child code texts = joined texts
argument_text pool shapes.List code texts = codes "[" ++ (joined texts ++ codes "]")
argument_text pool shapes.Optional code texts = codes "[" ++ (joined texts ++ codes "]")
argument_text pool shapes.Text code texts = value_text pool code
argument_text pool shapes.Int code texts = int_text code
argument_text pool shapes.Truth code texts = truth_text code

-- the arguments at the components, from the k-th on, with the codes at them
abbrev pub arguments_text : List (List ℕ) → List Piece → ℕ → List Component → List ℕ → List (List ℕ)
arguments_text pool pieces k [] tokens = []
arguments_text pool pieces k (x ∷ xs) [] = argument_text pool x.shape 0 (texts_at k pieces) ∷ arguments_text pool pieces (suc k) xs []
arguments_text pool pieces k (x ∷ xs) (code ∷ tokens) = argument_text pool x.shape code (texts_at k pieces) ∷ arguments_text pool pieces (suc k) xs tokens

abbrev pub name_in : Option Class → List ℕ
name_in None = []
name_in (Some c) = c.name

-- the trees side by side, each by its class's name and its arguments in parentheses
abbrev pub pieces_of : List Class → List (List ℕ) → Forest → List Piece
pieces_of g pool Empty = []
pieces_of g pool (Tree c k tokens below beside) =
    record { component = k; text = name_in (slice_get g c.0) ++ (codes "(" ++ (joined (arguments_text pool (pieces_of g pool below) 0 (components_of g c.0) tokens) ++ codes ")")) }
    ∷ pieces_of g pool beside

-- the texts of all
abbrev pub all_texts : List Piece → List (List ℕ)
all_texts [] = []
all_texts (p ∷ pieces) = p.text ∷ all_texts pieces

-- the texts of the arguments of the root of a tree
abbrev pub root_arguments : List Class → List (List ℕ) → Forest → List (List ℕ)
root_arguments g pool Empty = []
root_arguments g pool (Tree c k tokens below beside) = arguments_text pool (pieces_of g pool below) 0 (components_of g c.0) tokens

-- the text of a tree, which may be part of another: no white space but one space behind each comma
abbrev pub tree_text : List Class → List (List ℕ) → Forest → List ℕ
tree_text g pool tree = joined (all_texts (pieces_of g pool tree))

-- the canonical text of a whole tree has one line feed at its end
abbrev pub canonical : List Class → List (List ℕ) → Forest → List ℕ
canonical g pool term = tree_text g pool term ++ 10 ∷ []

-- the text is the canonical one of each tree of these nodes
abbrev pub IsCanonicalOf : List Class → List (List ℕ) → List Node → List ℕ → Type 0
IsCanonicalOf g pool nodes text = (term : Forest) → IsTerm g (length pool) term → nodes ≡ nodes_of term → text ≡ canonical g pool term
