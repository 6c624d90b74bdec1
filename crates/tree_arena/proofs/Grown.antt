-- In a tree each node but the root hangs at a component of a node before it.
use Rattle.std.proofs.Common.{◌≡◌, ℕ, zero, suc, ◌+◌, ◌<◌, ◌≤◌, List, [], ◌∷◌, ◌++◌, Some, length, slice_get, take, refl, sym, ap, subst, ◌∙◌, arith, length-append, append-nil}
use Rattle.ast_grammar.specs.declared.grammar.ClassId.{ClassId}
use Rattle.ast_grammar.specs.Grammar.{Class, Component}
use Rattle.tree_arena.specs.Nodes.{Node, most_nodes, tokens_at}
use Rattle.tree_arena.specs.Terms.{Forest, Empty, Tree, Hangs, over, token, one, none, element, IsTerm, root, IsTree, size, nodes_from, nodes_of}

-- the node of number n hangs at a component of a node before it
pub record IsHung (all : List Node) (n : ℕ) (x : Node) : Type 0 where
  pub before : x.parent < n
  pub within : x.component < length (tokens_at all x.parent)

-- these nodes do, the first having the number n
abbrev pub AreHung : List Node → ℕ → List Node → Type 0
AreHung all n [] = Unit {0}
AreHung all n (x ∷ xs) = IsHung all n x × AreHung all (suc n) xs

-- these nodes stand among all, the first having the number n
abbrev pub AreAt : List Node → ℕ → List Node → Type 0
AreAt all n [] = Unit {0}
AreAt all n (x ∷ xs) = (tokens_at all n ≡ x.tokens) × AreAt all (suc n) xs

-- in two parts
at_left : (all : List Node) (n : ℕ) (xs ys : List Node) → AreAt all n (xs ++ ys) → AreAt all n xs
at_left all n [] ys h = tt
at_left all n (x ∷ xs) ys h = (h.0, at_left all (suc n) xs ys h.1)

at_right : (all : List Node) (n m : ℕ) (xs ys : List Node) → n + length xs ≡ m → AreAt all n (xs ++ ys) → AreAt all m ys
at_right all n m [] ys e h = let same : n ≡ m = omega (arith, e) in subst (λ k. AreAt all k ys) same h
at_right all n m (x ∷ xs) ys e h = at_right all (suc n) m xs ys (omega (arith, e)) h.1

-- and two parts in one
hung_both : (all : List Node) (n m : ℕ) (xs ys : List Node) → n + length xs ≡ m → AreHung all n xs → AreHung all m ys → AreHung all n (xs ++ ys)
hung_both all n m [] ys e h g = let same : n ≡ m = omega (arith, e) in subst (λ k. AreHung all k ys) (sym same) g
hung_both all n m (x ∷ xs) ys e h g = (h.0, hung_both all (suc n) m xs ys (omega (arith, e)) h.1 g)

-- the node behind some others
tokens_behind : (front : List Node) (x : Node) (xs : List Node) → tokens_at (front ++ x ∷ xs) (length front) ≡ x.tokens
tokens_behind [] x xs = refl
tokens_behind (y ∷ front) x xs = tokens_behind front x xs

-- what stands behind some others stands among all
pub at_behind : (all front xs : List Node) (n : ℕ) → all ≡ front ++ xs → length front ≡ n → AreAt all n xs
at_behind all front [] n e l = tt
at_behind all front (x ∷ xs) n e l = (
  ap (λ (ys : List Node). tokens_at ys n) e ∙ ap (tokens_at (front ++ x ∷ xs)) (sym l) ∙ tokens_behind front x xs,
  at_behind all (front ++ x ∷ []) xs (suc n) (e ∙ sym (append_assoc_one front x xs)) (omega (arith, length-append front (x ∷ []))),
)
  where
    append_assoc_one : (ys : List Node) (y : Node) (zs : List Node) → (ys ++ y ∷ []) ++ zs ≡ ys ++ y ∷ zs
    append_assoc_one [] y zs = refl
    append_assoc_one (w ∷ ys) y zs = ap (λ vs. w ∷ vs) (append_assoc_one ys y zs)

-- there are as many nodes as the trees have
pub length-nodes_from : (parent n : ℕ) (trees : Forest) → length (nodes_from parent n trees) ≡ size trees
length-nodes_from parent n Empty = refl
length-nodes_from parent n (Tree c k tokens below beside) =
    omega (arith, length-append (nodes_from n (suc n) below) (nodes_from parent (suc n + size below) beside), length-nodes_from n (suc n) below, length-nodes_from parent (suc n + size below) beside)

-- there is a code for each component
pub length-codes : {g : List Class} {texts k : ℕ} {xs : List Component} {trees : Forest} {codes : List ℕ} → Hangs g texts xs k trees codes → length codes ≡ length xs
length-codes over = refl
length-codes (token is h) = ap suc (length-codes h)
length-codes (one may fits below beside) = ap suc (length-codes beside)
length-codes (none may h) = ap suc (length-codes h)
length-codes (element is fits below beside) = length-codes beside

-- a tree and those beside it, where those below it hang at it
hung_tree : (all : List Node) (parent n k : ℕ) (c : ClassId) (tokens : List ℕ) (below beside : Forest) → AreAt all n (nodes_from parent n (Tree c k tokens below beside)) → parent < n → k < length (tokens_at all parent)
    → (AreAt all (suc n) (nodes_from n (suc n) below) → AreHung all (suc n) (nodes_from n (suc n) below))
    → (AreAt all (suc n + size below) (nodes_from parent (suc n + size below) beside) → AreHung all (suc n + size below) (nodes_from parent (suc n + size below) beside))
    → AreHung all n (nodes_from parent n (Tree c k tokens below beside))
hung_tree all parent n k c tokens below beside at before within first rest =
    let inner = nodes_from n (suc n) below in
    let outer = nodes_from parent (suc n + size below) beside in
    let behind : suc n + length inner ≡ suc n + size below = ap (λ m. suc n + m) (length-nodes_from n (suc n) below) in (
      record { before = before; within = within },
      hung_both all (suc n) (suc n + size below) inner outer behind (first (at_left all (suc n) inner outer at.1)) (rest (at_right all (suc n) (suc n + size below) inner outer behind at.1)),
    )

-- the nodes of trees that hang at components of a node before them
hung_from : {g : List Class} {texts k : ℕ} {xs : List Component} {trees : Forest} {codes : List ℕ} (all : List Node) (parent n : ℕ) → Hangs g texts xs k trees codes → AreAt all n (nodes_from parent n trees)
    → parent < n → k + length xs ≤ length (tokens_at all parent) → AreHung all n (nodes_from parent n trees)
hung_from all parent n over at before room = tt
hung_from all parent n (token is h) at before room = hung_from all parent n h at before (omega (arith, room))
hung_from {k = k} all parent n (one {c = c} {tokens = tokens} {below = inner} {beside = outer} may fits below beside) at before room =
    hung_tree all parent n k c tokens inner outer at before (omega (arith, room)) (λ h. hung_from all n (suc n) below h (omega arith) (omega (arith, length-codes below, ap length at.0)))
    (λ h. hung_from all parent (suc n + size inner) beside h (omega arith) (omega (arith, room)))
hung_from all parent n (none may h) at before room = hung_from all parent n h at before (omega (arith, room))
hung_from {k = k} all parent n (element {c = c} {tokens = tokens} {below = inner} {beside = outer} is fits below beside) at before room =
    hung_tree all parent n k c tokens inner outer at before (omega (arith, room)) (λ h. hung_from all n (suc n) below h (omega arith) (omega (arith, length-codes below, ap length at.0)))
    (λ h. hung_from all parent (suc n + size inner) beside h (omega arith) room)

-- A root and nodes that hang at it and below it.
pub record IsRooted (nodes : List Node) : Type 0 where
  pub root : Node
  pub rest : List Node
  pub are : nodes ≡ root ∷ rest
  pub hung : AreHung nodes 1 rest

-- a whole tree of a grammar is one
rooted_term : {g : List Class} {texts : ℕ} {tree : Forest} → IsTerm g texts tree → IsRooted (nodes_of tree)
rooted_term (root {c = c} {tokens = tokens} {below = below} fits h) =
    let first : Node = record { class = c; parent = 0; component = 0; tokens = tokens } in
    let rest = nodes_from 0 1 below in
    let same : nodes_of (Tree c 0 tokens below Empty) ≡ first ∷ rest = ap (λ xs. first ∷ xs) (append-nil rest) in
    let all = first ∷ rest in
    let are : AreHung all 1 rest = hung_from all 0 1 h (at_behind all (first ∷ []) rest 1 refl refl) (omega arith) (omega (arith, length-codes h)) in
    record {
      root = first;
      rest = rest;
      are = same;
      hung = subst (λ (xs : List Node). AreHung xs 1 rest) (sym same) are;
    }

-- and so are the nodes of any tree
pub rooted : (nodes : List Node) → IsTree nodes → IsRooted nodes
rooted nodes t = subst IsRooted (sym t.tree.are) (rooted_term t.tree.grown)

-- a tree has a node
pub tree_some : (nodes : List Node) → IsTree nodes → 0 < length nodes
tree_some nodes t = let r = rooted nodes t in omega (arith, ap length r.are)

-- at most so many
pub tree_few : (nodes : List Node) → IsTree nodes → length nodes ≤ most_nodes
tree_few nodes t = t.tree.few

-- the node of a number among some that hang
pub hung_among : (all : List Node) (n : ℕ) (xs : List Node) (i m : ℕ) (x : Node) → n + i ≡ m → AreHung all n xs → slice_get xs i ≡ Some x → IsHung all m x
hung_among all n [] i m x e h there = absurd cc
hung_among all n (y ∷ xs) zero m x e h there =
    let at : n ≡ m = omega (arith, e) in
    let same : y ≡ x = cc in
    subst (λ k. IsHung all k x) at (subst (IsHung all n) same h.0)
hung_among all n (y ∷ xs) (suc i) m x e h there = hung_among all (suc n) xs i m x (omega (arith, e)) h.1 there

-- a node of a tree that isn't the root
pub hung_node : (nodes : List Node) → IsTree nodes → (n : ℕ) (x : Node) → slice_get nodes (suc n) ≡ Some x → IsHung nodes (suc n) x
hung_node nodes t n x there =
    let r = rooted nodes t in
    hung_among nodes 1 r.rest n (suc n) x (omega arith) r.hung (ap (λ xs. slice_get xs (suc n)) (sym r.are) ∙ there)

-- the first so many of some that hang
pub hung_take : (all : List Node) (n m : ℕ) (xs : List Node) → AreHung all n xs → AreHung all n (take m xs)
hung_take all n zero xs h = tt
hung_take all n (suc m) [] h = tt
hung_take all n (suc m) (x ∷ xs) h = (h.0, hung_take all (suc n) m xs h.1)

-- all stand among themselves
pub all_at : (nodes : List Node) → AreAt nodes 0 nodes
all_at nodes = at_behind nodes [] nodes 0 refl refl

-- what holds of a root and nodes that hang holds of a tree
pub of_tree : (P : List Node → Type 0) → ((root : Node) (rest : List Node) → AreHung (root ∷ rest) 1 rest → P (root ∷ rest)) → (nodes : List Node) → IsTree nodes → P nodes
of_tree P f nodes t = let r = rooted nodes t in subst P (sym r.are) (f r.root r.rest (subst (λ (xs : List Node). AreHung xs 1 r.rest) r.are r.hung))
