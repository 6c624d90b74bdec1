-- Trees as terms, and which of them are trees of a grammar.
use Rattle.std.specs.Prelude.{◌≡◌, ℕ, zero, suc, ◌+◌, ◌-◌, ◌<◌, ◌≤◌, ◌^◌, List, [], ◌∷◌, ◌++◌, true, false, Option, Some, None, All, length, slice_get, nat_lt, if◌then◌else◌, ◌==◌}
use Rattle.std.specs.Option.{option_map}
use Rattle.ast_grammar.specs.declared.grammar.ClassId.{ClassId}
use Rattle.ast_grammar.specs.declared.grammar.Shape.{Shape}
use Rattle.ast_grammar.specs.declared.grammar.Shape.TheVariants as shapes
use Rattle.ast_grammar.specs.Grammar.{Class, Component, abstract_in, components_of, is_sub, most_components}
use Rattle.tree_arena.specs.Nodes.{Node, most_nodes}

-- Trees side by side. A tree is told by the class of its root, the component at which it hangs, the codes at the components of its own
-- class, the trees below it, and then come the trees beside it.
pub data Forest : Type 0 where
  Empty : Forest
  Tree : ClassId → ℕ → List ℕ → Forest → Forest → Forest

-- how many nodes there are
abbrev pub size : Forest → ℕ
size Empty = 0
size (Tree c k tokens below beside) = suc (size below + size beside)

-- the nodes in preorder, the first having the number n; the trees hang at node `parent`
abbrev pub nodes_from : ℕ → ℕ → Forest → List Node
nodes_from parent n Empty = []
nodes_from parent n (Tree c k tokens below beside) =
    record { class = c; parent = parent; component = k; tokens = tokens } ∷ (nodes_from n (suc n) below ++ nodes_from parent (suc n + size below) beside)

-- the nodes of a whole tree
abbrev pub nodes_of : Forest → List Node
nodes_of tree = nodes_from 0 0 tree

-- A node of the second class may stand where one of the first is wanted: it is of that class or of a subclass, and not abstract.
pub record Fits (g : List Class) (wanted class : ClassId) : Type 0 where
  pub below : is_sub g class.0 wanted.0 ≡ true
  pub concrete : option_map abstract_in (slice_get g class.0) ≡ Some false

-- a code of a token of this shape: 0 or 1 for a truth value, 32 bits for an integer, and the number of a text, of which there are so many
abbrev pub IsCode : ℕ → Shape → ℕ → Type 0
IsCode texts shapes.Child v = ⊥
IsCode texts shapes.List v = ⊥
IsCode texts shapes.Optional v = ⊥
IsCode texts shapes.Text v = v < texts
IsCode texts shapes.Int v = v < 2 ^ 32
IsCode texts shapes.Truth v = v ≤ 1

-- at a child hangs one tree, at an optional one may
abbrev pub MayHaveOne : Shape → Type 0
MayHaveOne shapes.Child = Unit {0}
MayHaveOne shapes.List = ⊥
MayHaveOne shapes.Optional = Unit {0}
MayHaveOne shapes.Text = ⊥
MayHaveOne shapes.Int = ⊥
MayHaveOne shapes.Truth = ⊥

-- at a list and at an optional there may be none
abbrev pub MayHaveNone : Shape → Type 0
MayHaveNone shapes.Child = ⊥
MayHaveNone shapes.List = Unit {0}
MayHaveNone shapes.Optional = Unit {0}
MayHaveNone shapes.Text = ⊥
MayHaveNone shapes.Int = ⊥
MayHaveNone shapes.Truth = ⊥

-- The trees hang at these components, of which the first has the number k, in their order, and these are the codes there.
pub data Hangs (g : List Class) (texts : ℕ) : List Component → ℕ → Forest → List ℕ → Type 0 where
  over : {k : ℕ} → Hangs g texts [] k Empty []
  token : {x : Component} {xs : List Component} {k v : ℕ} {trees : Forest} {codes : List ℕ} → IsCode texts x.shape v
      → Hangs g texts xs (suc k) trees codes → Hangs g texts (x ∷ xs) k trees (v ∷ codes)
  one : {x : Component} {xs : List Component} {k : ℕ} {c : ClassId} {tokens codes : List ℕ} {below beside : Forest} → MayHaveOne x.shape → Fits g x.class c
      → Hangs g texts (components_of g c.0) 0 below tokens → Hangs g texts xs (suc k) beside codes → Hangs g texts (x ∷ xs) k (Tree c k tokens below beside) (0 ∷ codes)
  none : {x : Component} {xs : List Component} {k : ℕ} {trees : Forest} {codes : List ℕ} → MayHaveNone x.shape
      → Hangs g texts xs (suc k) trees codes → Hangs g texts (x ∷ xs) k trees (0 ∷ codes)
  element : {x : Component} {xs : List Component} {k : ℕ} {c : ClassId} {tokens codes : List ℕ} {below beside : Forest} → x.shape ≡ shapes.List → Fits g x.class c
      → Hangs g texts (components_of g c.0) 0 below tokens → Hangs g texts (x ∷ xs) k beside codes → Hangs g texts (x ∷ xs) k (Tree c k tokens below beside) codes

abbrev pub first_class : ClassId
first_class = record { 0 = 0 }

-- A whole tree of a grammar, with so many texts: its root is of the first class or of a subclass.
pub data IsTerm (g : List Class) (texts : ℕ) : Forest → Type 0 where
  root : {c : ClassId} {tokens : List ℕ} {below : Forest} → Fits g first_class c → Hangs g texts (components_of g c.0) 0 below tokens
      → IsTerm g texts (Tree c 0 tokens below Empty)

-- The nodes are those of a tree of the grammar, in preorder, and not too many.
pub record IsTreeOf (g : List Class) (texts : ℕ) (nodes : List Node) : Type 0 where
  pub term : Forest
  pub grown : IsTerm g texts term
  pub are : nodes ≡ nodes_of term
  pub few : length nodes ≤ most_nodes

-- a class has at most so many components
abbrev pub HasFew : Class → Type 0
HasFew c = length c.components ≤ most_components

-- They are those of a tree of some grammar, of which no class has more components than a class may have.
pub record IsTree (nodes : List Node) : Type 0 where
  pub grammar : List Class
  pub short : All HasFew grammar
  pub texts : ℕ
  pub tree : IsTreeOf grammar texts nodes

-- the tree of a number in preorder, without the trees beside it
abbrev pub tree_at : Forest → ℕ → Option Forest
tree_at Empty n = None
tree_at (Tree c k tokens below beside) zero = Some (Tree c k tokens below Empty)
tree_at (Tree c k tokens below beside) (suc n) = if nat_lt n (size below) then tree_at below n else tree_at beside (n - size below)

-- of trees side by side, the first having the number i, the numbers of those that hang at component k
abbrev pub roots_at : ℕ → Forest → ℕ → List ℕ
roots_at i Empty k = []
roots_at i (Tree c j tokens below beside) k = if j == k then i ∷ roots_at (suc i + size below) beside k else roots_at (suc i + size below) beside k

-- the trees below a tree
abbrev pub below_of : Forest → Forest
below_of Empty = Empty
below_of (Tree c k tokens below beside) = below
