-- What the accessors answer of the nodes of a tree that is given as a term.
use Rattle.std.specs.Prelude.{◌≡◌, ℕ, suc, ◌+◌, ◌<◌, List, Some, length, slice_get}
use Rattle.ast_grammar.specs.declared.grammar.ClassId.{ClassId}
use Rattle.tree_arena.specs.Nodes.{Node, child_in, class_in, component_in, count_in, end_in, hanging, index_in, parent_in, tokens_at}
use Rattle.tree_arena.specs.Terms.{Forest, Empty, Tree, roots_at, size, tree_at}

-- one tree, with none beside it
pub data IsOneTree : Forest → Type 0 where
  alone : {c : ClassId} {k : ℕ} {tokens : List ℕ} {below : Forest} → IsOneTree (Tree c k tokens below Empty)

-- Node m hangs at component k of node n, at this place among those that do.
pub record HangsAt (nodes : List Node) (n k place m : ℕ) : Type 0 where
  pub parent : parent_in nodes m ≡ Some n
  pub component : component_in nodes m ≡ Some k
  pub index : index_in nodes m ≡ Some place

-- Node n is of class c, hangs at component k, and has these codes and these trees below it, of which the first has the next number.
pub record IsNode (nodes : List Node) (n : ℕ) (c : ClassId) (k : ℕ) (codes : List ℕ) (below : Forest) : Type 0 where
  pub there : n < length nodes
  pub class : class_in nodes n ≡ Some c
  pub component : component_in nodes n ≡ Some k
  pub tokens : tokens_at nodes n ≡ codes
  pub end : end_in nodes n ≡ suc n + size below
  pub trees : (j : ℕ) → hanging nodes n j ≡ roots_at (suc n) below j
  pub count : (j : ℕ) → count_in nodes n j ≡ length (roots_at (suc n) below j)
  pub child : (j i : ℕ) → child_in nodes n j i ≡ slice_get (roots_at (suc n) below j) i
  pub children : (j i m : ℕ) → slice_get (roots_at (suc n) below j) i ≡ Some m → HangsAt nodes n j i m

-- node n is the root of this tree
abbrev pub HasNode : List Node → ℕ → Forest → Type 0
HasNode nodes n Empty = ⊥
HasNode nodes n (Tree c k tokens below beside) = IsNode nodes n c k tokens below

-- Of trees side by side, of which the first has the number i, number m is one of them, and hangs at component k.
pub record HasRoot (trees : Forest) (i k m : ℕ) : Type 0 where
  pub place : ℕ
  pub at : i + place ≡ m
  pub there : place < size trees
  pub class : ClassId
  pub tokens : List ℕ
  pub below : Forest
  pub tree : tree_at trees place ≡ Some (Tree class k tokens below Empty)
