-- How many nodes a written tree has.
use Rattle.std.proofs.Common.{◌≡◌, ℕ, suc, ◌+◌, List, Bool, true, false, length, if◌then◌else◌, refl, arith, length-append}
use Rattle.ast_grammar.specs.Grammar.{Class}
use Rattle.tree_arena.specs.Terms.{Forest, Empty, Tree, nodes_from, size}
use Rattle.tree_syntax.specs.Written.{Written, Nothing, Node, Brackets, Valued}
use Rattle.tree_reader.specs.Breaking.{nodes_in}
use Rattle.tree_reader.specs.Grown.{beside_each, grown}

-- a forest has as many nodes as its size
pub length_nodes : (parent n : ℕ) (trees : Forest) → length (nodes_from parent n trees) ≡ size trees
length_nodes parent n Empty = refl
length_nodes parent n (Tree c k tokens below beside) =
    omega (arith, length-append (nodes_from n (suc n) below) (nodes_from parent (suc n + size below) beside), length_nodes n (suc n) below, length_nodes parent (suc n + size below) beside)

-- the sizes of trees side by side add up
size_beside : (trees others : Forest) → size (beside_each trees others) ≡ size trees + size others
size_beside Empty others = omega arith
size_beside (Tree c k tokens below beside) others = omega (arith, size_beside beside others)

-- as many nodes as are written
pub size_grown : (g : List Class) (pool : List (List ℕ)) (w : Written) (bracketed : Bool) (k : ℕ) → size (grown g pool bracketed k w) ≡ nodes_in w
size_grown g pool Nothing bracketed k = refl
size_grown g pool (Node name p arguments behind) bracketed k =
    omega (arith, size_grown g pool arguments false 0, size_grown g pool behind bracketed (if bracketed then k else suc k))
size_grown g pool (Brackets p nodes behind) bracketed k =
    let next = if bracketed then k else suc k in
    omega (arith, size_beside (grown g pool true k nodes) (grown g pool bracketed next behind), size_grown g pool nodes true k, size_grown g pool behind bracketed next)
size_grown g pool (Valued leaf p behind) bracketed k = size_grown g pool behind bracketed (if bracketed then k else suc k)
