-- The rules N2 to N7: what the text of a tree breaks.
use Rattle.std.specs.Prelude.{ℕ, suc, ◌+◌, List, [], ◌∷◌, ◌++◌, Bool, true, false, not, nat_le, ◌==◌, Option, Some, None, length, slice_get}
use Rattle.broken_rules.specs.declared.broken.Broken.{Broken}
use Rattle.broken_rules.specs.declared.rule.Rule.TheVariants.{N2, N3, N4, N5, N6, N7}
use Rattle.broken_rules.specs.Notes.{at, broken_if}
use Rattle.rag_io.specs.declared.token.Place.{Place}
use Rattle.rag_io.specs.Decimal.{decimal}
use Rattle.rag_io.specs.Tokens.{Lexed}
use Rattle.ast_grammar.specs.declared.grammar.ClassId.{ClassId}
use Rattle.ast_grammar.specs.declared.grammar.Shape.{Shape}
use Rattle.ast_grammar.specs.declared.grammar.Shape.TheVariants as shapes
use Rattle.ast_grammar.specs.Grammar.{Class, class_named, components_of, is_sub}
use Rattle.tree_arena.specs.Nodes.{most_nodes}
use Rattle.tree_arena.specs.Terms.{first_class}
use Rattle.token_texts.specs.Texts.{texts_broken}
use Rattle.tree_syntax.specs.Written.{Leaf, WritesText, WritesInt, WritesTruth, Written, Nothing, Node, Brackets, Valued}
use Rattle.tree_reader.specs.Wants.{Wants, Unknown, Wanted, At, Element, NoNode, Anything, next_of, wanted_by, inside, arguments_of}

-- how many arguments there are, and how many nodes with those in them
abbrev pub count : Written → ℕ
count Nothing = 0
count (Node name p arguments behind) = suc (count behind)
count (Brackets p nodes behind) = suc (count behind)
count (Valued leaf p behind) = suc (count behind)

abbrev pub nodes_in : Written → ℕ
nodes_in Nothing = 0
nodes_in (Node name p arguments behind) = suc (nodes_in arguments + nodes_in behind)
nodes_in (Brackets p nodes behind) = nodes_in nodes + nodes_in behind
nodes_in (Valued leaf p behind) = nodes_in behind

abbrev pub is_concrete_class : Option Class → Bool
is_concrete_class None = false
is_concrete_class (Some c) = not c.abstract

-- the class is known, and not abstract
abbrev pub is_concrete : List Class → Option ℕ → Bool
is_concrete g None = false
is_concrete g (Some c) = is_concrete_class (slice_get g c)

-- the class is known, and neither of this class nor a subclass
abbrev pub is_apart : List Class → Option ℕ → ClassId → Bool
is_apart g None wanted = false
is_apart g (Some c) wanted = not (is_sub g c wanted.0)

-- the class is known, and has another number of components
abbrev pub miscounts : List Class → Option ℕ → ℕ → Bool
miscounts g None n = false
miscounts g (Some c) n = not (n == length (components_of g c))

-- N4 or N5: a node stands at a component. At a list or optional it is another shape, and at a token another kind.
abbrev pub node_at_shape : List Class → Option ℕ → Place → Shape → ClassId → List Broken
node_at_shape g class p shapes.Child wanted = broken_if (is_apart g class wanted) (at p N4)
node_at_shape g class p shapes.List wanted = at p N4 ∷ []
node_at_shape g class p shapes.Optional wanted = at p N4 ∷ []
node_at_shape g class p shapes.Text wanted = at p N5 ∷ []
node_at_shape g class p shapes.Int wanted = at p N5 ∷ []
node_at_shape g class p shapes.Truth wanted = at p N5 ∷ []

-- the same of a node wherever it stands; behind the one of an optional there is none
abbrev pub node_misplaced : List Class → Wanted → Option ℕ → Place → List Broken
node_misplaced g (At s wanted) class p = node_at_shape g class p s wanted
node_misplaced g (Element wanted) class p = broken_if (is_apart g class wanted) (at p N4)
node_misplaced g NoNode class p = at p N4 ∷ []
node_misplaced g Anything class p = []

-- N4 or N5: brackets stand at a component
abbrev pub brackets_at_shape : Place → Shape → List Broken
brackets_at_shape p shapes.Child = at p N4 ∷ []
brackets_at_shape p shapes.List = []
brackets_at_shape p shapes.Optional = []
brackets_at_shape p shapes.Text = at p N5 ∷ []
brackets_at_shape p shapes.Int = at p N5 ∷ []
brackets_at_shape p shapes.Truth = at p N5 ∷ []

-- inside brackets stand nodes alone
abbrev pub brackets_misplaced : Wanted → Place → List Broken
brackets_misplaced (At s c) p = brackets_at_shape p s
brackets_misplaced (Element c) p = at p N4 ∷ []
brackets_misplaced NoNode p = at p N4 ∷ []
brackets_misplaced Anything p = []

-- the largest integer, and the largest one behind a `-`
abbrev pub most_of : Bool → ℕ
most_of false = 2147483647
most_of true = 2147483648

abbrev pub is_text : Leaf → Bool
is_text (WritesText quoted) = true
is_text (WritesInt negative digits) = false
is_text (WritesTruth b) = false

-- an integer from -2147483648 to 2147483647
abbrev pub is_small_int : Leaf → Bool
is_small_int (WritesText quoted) = false
is_small_int (WritesInt negative digits) = nat_le (decimal digits) (most_of negative)
is_small_int (WritesTruth b) = false

abbrev pub is_truth : Leaf → Bool
is_truth (WritesText quoted) = false
is_truth (WritesInt negative digits) = false
is_truth (WritesTruth b) = true

-- N4 or N5: the value of a token stands at a component: at a child, list or optional it is another shape, and at a token of another kind,
-- or out of the integers, no value of it
abbrev pub value_at_shape : Leaf → Place → Shape → List Broken
value_at_shape leaf p shapes.Child = at p N4 ∷ []
value_at_shape leaf p shapes.List = at p N4 ∷ []
value_at_shape leaf p shapes.Optional = at p N4 ∷ []
value_at_shape leaf p shapes.Text = broken_if (not (is_text leaf)) (at p N5)
value_at_shape leaf p shapes.Int = broken_if (not (is_small_int leaf)) (at p N5)
value_at_shape leaf p shapes.Truth = broken_if (not (is_truth leaf)) (at p N5)

abbrev pub value_misplaced : Wanted → Leaf → Place → List Broken
value_misplaced (At s c) leaf p = value_at_shape leaf p s
value_misplaced (Element c) leaf p = at p N4 ∷ []
value_misplaced NoNode leaf p = at p N4 ∷ []
value_misplaced Anything leaf p = []

-- what the name of a node breaks by itself: N2, where its class is unknown or abstract; N7, where it is the 65,537th
abbrev pub name_broken : List Class → Option ℕ → ℕ → Place → List Broken
name_broken g class n p = broken_if (not (is_concrete g class)) (at p N2) ++ broken_if (n == most_nodes) (at p N7)

-- What some arguments break where this is wanted of them; the first node in them is that of number n.
abbrev pub arguments_broken : List Class → Wants → ℕ → Written → List Broken
arguments_broken g wants n Nothing = []
arguments_broken g wants n (Node name p arguments behind) =
    let class = class_named g name in
    (name_broken g class n p ++ node_misplaced g (wanted_by wants) class p)
    ++ (arguments_broken g (arguments_of g class) (suc n) arguments
    ++ (broken_if (miscounts g class (count arguments)) (at p N3)
    ++ arguments_broken g (next_of wants) (suc n + nodes_in arguments) behind))
arguments_broken g wants n (Brackets p nodes behind) =
    brackets_misplaced (wanted_by wants) p ++ (arguments_broken g (inside (wanted_by wants)) n nodes ++ arguments_broken g (next_of wants) (n + nodes_in nodes) behind)
arguments_broken g wants n (Valued leaf p behind) = value_misplaced (wanted_by wants) leaf p ++ arguments_broken g (next_of wants) n behind

-- N6: the root is neither of the first class nor of a subclass
abbrev pub root_broken : List Class → Written → List Broken
root_broken g Nothing = []
root_broken g (Node name p arguments behind) = broken_if (is_apart g (class_named g name) first_class) (at p N6)
root_broken g (Brackets p nodes behind) = []
root_broken g (Valued leaf p behind) = []

-- all that the tokens of a tree break, which write this, where the pool holds some texts
abbrev pub tree_broken : List Class → List (List ℕ) → List Lexed → Written → List Broken
tree_broken g pool ts w = texts_broken N7 pool ts ++ (root_broken g w ++ arguments_broken g Unknown 0 w)
