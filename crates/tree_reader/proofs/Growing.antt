-- The nodes of the trees that some arguments write.
use Rattle.std.proofs.Common.{◌≡◌, ◌+◌, ℕ, suc, List, ◌∷◌, ◌++◌, Bool, true, false, if◌then◌else◌, length, refl, sym, ap, ◌∙◌, add-zero, append_assoc, arith}
use Rattle.std.proofs.lemmas.List.{length-append}
use Rattle.ast_grammar.specs.Grammar.{Class}
use Rattle.tree_arena.specs.Nodes as arena
use Rattle.tree_arena.specs.Terms.{Forest, Empty, Tree, nodes_from, size}
use Rattle.tree_syntax.specs.Written.{Written, Nothing, Node, Brackets, Valued}
use Rattle.tree_reader.specs.Breaking.{nodes_in}
use Rattle.tree_reader.specs.Grown.{beside_each, grown}

-- as many nodes as in both
size_beside : (trees others : Forest) → size (beside_each trees others) ≡ size trees + size others
size_beside Empty others = omega arith
size_beside (Tree c k tokens below beside) others = let h = size_beside beside others in omega (arith, h)

-- as many nodes as are written
pub size_grown : (g : List Class) (pool : List (List ℕ)) (b : Bool) (k : ℕ) (w : Written) → size (grown g pool b k w) ≡ nodes_in w
size_grown g pool b k Nothing = refl
size_grown g pool b k (Node name p arguments behind) =
    let first = size_grown g pool false 0 arguments in
    let others = size_grown g pool b (if b then k else suc k) behind in
    omega (arith, first, others)
size_grown g pool b k (Brackets p nodes behind) =
    let first = size_grown g pool true k nodes in
    let others = size_grown g pool b (if b then k else suc k) behind in
    let both = size_beside (grown g pool true k nodes) (grown g pool b (if b then k else suc k) behind) in
    omega (arith, first, others, both)
size_grown g pool b k (Valued leaf p behind) = size_grown g pool b (if b then k else suc k) behind

-- a forest has as many nodes as it says
pub nodes_count : (parent n : ℕ) (trees : Forest) → length (nodes_from parent n trees) ≡ size trees
nodes_count parent n Empty = refl
nodes_count parent n (Tree c k tokens below beside) =
    let first = nodes_count n (suc n) below in
    let others = nodes_count parent (suc n + size below) beside in
    let both = length-append (nodes_from n (suc n) below) (nodes_from parent (suc n + size below) beside) in
    omega (arith, first, others, both)

-- as many as are written
pub grown_count : (g : List Class) (pool : List (List ℕ)) (b : Bool) (parent n k : ℕ) (w : Written) → length (nodes_from parent n (grown g pool b k w)) ≡ nodes_in w
grown_count g pool b parent n k w = nodes_count parent n (grown g pool b k w) ∙ size_grown g pool b k w

-- the nodes of trees, and of others beside them
pub nodes_beside : (parent n : ℕ) (trees others : Forest)
    → nodes_from parent n (beside_each trees others) ≡ nodes_from parent n trees ++ nodes_from parent (n + size trees) others
nodes_beside parent n Empty others = ap (λ (m : ℕ). nodes_from parent m others) (sym (add-zero n))
nodes_beside parent n (Tree c k tokens below beside) others =
    let sum : (suc n + size below) + size beside ≡ n + suc (size below + size beside) = omega arith in
    let first : arena.Node = record { class = c; parent = parent; component = k; tokens = tokens } in
    let inside = nodes_from n (suc n) below in
    let next = nodes_from parent (suc n + size below) beside in
    let beside_next = nodes_beside parent (suc n + size below) beside others ∙ ap (λ (m : ℕ). next ++ nodes_from parent m others) sum in
    ap (λ ys. first ∷ (inside ++ ys)) beside_next ∙ ap (λ ys. first ∷ ys) (sym (append_assoc inside next (nodes_from parent (n + suc (size below + size beside)) others)))
