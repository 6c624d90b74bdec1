-- What shows nodes: trees, each by a code of its root.
use Rattle.std.specs.Prelude.{◌≡◌, ℕ, ◌<◌, List, [], ◌∷◌, ◌==◌, false, Option, Some, None, length, slice_get, if◌then◌else◌}
use Rattle.std.specs.Option.{option_map}
use Rattle.ast_grammar.specs.declared.grammar.ClassId.{ClassId}
use Rattle.ast_grammar.specs.Grammar.{Class, abstract_in, components_of}
use Rattle.tree_arena.specs.Accessors.{IsOneTree}
use Rattle.tree_arena.specs.Nodes.{Node}
use Rattle.tree_arena.specs.Terms.{Forest, Empty, Tree, Hangs, below_of, nodes_of, tree_at}

-- the class of the root of a tree
abbrev pub root_class : Forest → Option ClassId
root_class Empty = None
root_class (Tree c k tokens below beside) = Some c

-- the codes at its components
abbrev pub root_codes : Forest → List ℕ
root_codes Empty = []
root_codes (Tree c k tokens below beside) = tokens

-- of trees side by side those that hang at component k, each without those beside it
abbrev pub trees_at : ℕ → Forest → List Forest
trees_at k Empty = []
trees_at k (Tree c j tokens below beside) = if j == k then Tree c j tokens below Empty ∷ trees_at k beside else trees_at k beside

-- the trees that hang at component k of the root of a tree
abbrev pub hung_at : Forest → ℕ → List Forest
hung_at tree k = trees_at k (below_of tree)

-- A tree without others beside it, of a grammar and so many texts: the class of its root is not abstract, and the trees below hang at that
-- class's components. It may hang anywhere.
pub data IsSubtree (g : List Class) (texts : ℕ) : Forest → Type 0 where
  subtree : {c : ClassId} {k : ℕ} {tokens : List ℕ} {below : Forest} → option_map abstract_in (slice_get g c.0) ≡ Some false
      → Hangs g texts (components_of g c.0) 0 below tokens → IsSubtree g texts (Tree c k tokens below Empty)

-- some tree is shown by this code
abbrev pub IsShown : (ℕ → Forest → Type 0) → ℕ → Type 0
IsShown shows n = (tree : Forest) × shows n tree

-- the class of the root of each such tree
abbrev pub IsClassOf : (ℕ → Forest → Type 0) → ℕ → ClassId → Type 0
IsClassOf shows n c = (tree : Forest) → shows n tree → root_class tree ≡ Some c

-- how many trees hang at a component
abbrev pub IsCountOf : (ℕ → Forest → Type 0) → ℕ → ℕ → ℕ → Type 0
IsCountOf shows n k count = (tree : Forest) → shows n tree → count ≡ length (hung_at tree k)

-- more than i trees hang at a component
abbrev pub HasChild : (ℕ → Forest → Type 0) → ℕ → ℕ → ℕ → Type 0
HasChild shows n k i = (tree : Forest) × shows n tree × (i < length (hung_at tree k))

-- by this code the i-th of them is shown later
abbrev pub IsChildOf : (ℕ → Forest → Type 0) → (ℕ → Forest → Type 0) → ℕ → ℕ → ℕ → ℕ → Type 0
IsChildOf shows later n k i m = (tree child : Forest) → shows n tree → slice_get (hung_at tree k) i ≡ Some child → later m child

-- A token may stand at component k of the root: there is a code, and no tree hangs there.
pub record IsBare (tree : Forest) (k : ℕ) : Type 0 where
  pub there : k < length (root_codes tree)
  pub none : hung_at tree k ≡ []

abbrev pub HasToken : (ℕ → Forest → Type 0) → ℕ → ℕ → Type 0
HasToken shows n k = (tree : Forest) × shows n tree × IsBare tree k

-- the code there
abbrev pub IsTokenOf : (ℕ → Forest → Type 0) → ℕ → ℕ → ℕ → Type 0
IsTokenOf shows n k code = (tree : Forest) → shows n tree → IsBare tree k → slice_get (root_codes tree) k ≡ Some code

-- Of a source tree with these nodes, node n is the root of this tree.
pub record IsSubtreeAt (nodes : List Node) (n : ℕ) (tree : Forest) : Type 0 where
  pub term : Forest
  pub one : IsOneTree term
  pub are : nodes ≡ nodes_of term
  pub at : tree_at term n ≡ Some tree
