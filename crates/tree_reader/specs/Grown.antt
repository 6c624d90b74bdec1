-- The tree that a text writes.
use Rattle.std.specs.Prelude.{ℕ, suc, ◌-◌, ◌^◌, List, [], ◌∷◌, Bool, true, false, ◌==◌, nat_le, Option, if◌then◌else◌}
use Rattle.rag_io.specs.Decimal.{decimal}
use Rattle.rag_io.specs.Pool.{number_of}
use Rattle.rag_io.specs.Unquoted.{meant}
use Rattle.ast_grammar.specs.declared.grammar.ClassId.{ClassId}
use Rattle.ast_grammar.specs.Grammar.{Class, class_named}
use Rattle.tree_arena.specs.Terms.{Forest, Empty, Tree}
use Rattle.token_texts.specs.Texts.{or_zero}
use Rattle.tree_reader.specs.Breaking.{most_of}
use Rattle.tree_syntax.specs.Written.{Leaf, WritesText, WritesInt, WritesTruth, Written, Nothing, Node, Brackets, Valued}

-- the class of this number, where there is one
abbrev pub class_or_first : Option ℕ → ClassId
class_or_first c = record { 0 = or_zero c }

-- the code of an integer in the two's complement of 32 bits; one that doesn't fit has none
abbrev pub int_code : Bool → ℕ → ℕ
int_code false n = n
int_code true n = if n == 0 then 0 else 2 ^ 32 - n

abbrev pub small_code : Bool → ℕ → ℕ
small_code negative n = if nat_le n (most_of negative) then int_code negative n else 0

abbrev pub truth_code : Bool → ℕ
truth_code false = 0
truth_code true = 1

-- the code of a token's value: a text goes by its number in the pool
abbrev pub code_of : List (List ℕ) → Leaf → ℕ
code_of pool (WritesText quoted) = or_zero (number_of pool (meant quoted))
code_of pool (WritesInt negative digits) = small_code negative (decimal digits)
code_of pool (WritesTruth b) = truth_code b

-- the codes of some arguments, 0 for nodes and brackets
abbrev pub codes_of : List (List ℕ) → Written → List ℕ
codes_of pool Nothing = []
codes_of pool (Node name p arguments behind) = 0 ∷ codes_of pool behind
codes_of pool (Brackets p nodes behind) = 0 ∷ codes_of pool behind
codes_of pool (Valued leaf p behind) = code_of pool leaf ∷ codes_of pool behind

-- trees, and others beside them
abbrev pub beside_each : Forest → Forest → Forest
beside_each Empty trees = trees
beside_each (Tree c k tokens below beside) trees = Tree c k tokens below (beside_each beside trees)

-- The trees that some arguments write. The first argument stands at component k, and each further one at the next, but those in
-- brackets all at the same.
abbrev pub grown : List Class → List (List ℕ) → Bool → ℕ → Written → Forest
grown g pool bracketed k Nothing = Empty
grown g pool bracketed k (Node name p arguments behind) =
    Tree (class_or_first (class_named g name)) k (codes_of pool arguments) (grown g pool false 0 arguments) (grown g pool bracketed (if bracketed then k else suc k) behind)
grown g pool bracketed k (Brackets p nodes behind) = beside_each (grown g pool true k nodes) (grown g pool bracketed (if bracketed then k else suc k) behind)
grown g pool bracketed k (Valued leaf p behind) = grown g pool bracketed (if bracketed then k else suc k) behind

-- the tree that a text writes
abbrev pub tree_written : List Class → List (List ℕ) → Written → Forest
tree_written g pool w = grown g pool false 0 w
