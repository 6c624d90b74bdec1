-- The nodes of a source tree in preorder, and what the accessors answer of them.
use Rattle.std.specs.Prelude.{ℕ, zero, suc, ◌+◌, List, [], ◌∷◌, Option, None, length, slice_get, take, nat_le, if◌then◌else◌, ◌==◌, ◌&&◌}
use Rattle.std.specs.Option.{option_map}
use Rattle.ast_grammar.specs.declared.grammar.ClassId.{ClassId}

-- A node: its class; its parent and the component of the parent's class at which it hangs, both 0 at the root; and the codes at the
-- components of its own class in their order, 0 where the component is no token.
pub record Node : Type 0 where
  pub class : ClassId
  pub parent : ℕ
  pub component : ℕ
  pub tokens : List ℕ

-- the root has the number 0, and a tree has at most so many nodes
abbrev pub most_nodes : ℕ
most_nodes = 65536

-- the class of a node
abbrev pub class_in : List Node → ℕ → Option ClassId
class_in nodes n = option_map (λ (x : Node). x.class) (slice_get nodes n)

-- the parent of a node; the root has none
abbrev pub parent_in : List Node → ℕ → Option ℕ
parent_in nodes zero = None
parent_in nodes (suc n) = option_map (λ (x : Node). x.parent) (slice_get nodes (suc n))

-- the component of its parent at which a node hangs, 0 at the root
abbrev pub component_in : List Node → ℕ → Option ℕ
component_in nodes n = option_map (λ (x : Node). x.component) (slice_get nodes n)

-- the codes at the components of a node, of which a number past the last node has none
abbrev pub tokens_at : List Node → ℕ → List ℕ
tokens_at [] n = []
tokens_at (x ∷ nodes) zero = x.tokens
tokens_at (x ∷ nodes) (suc n) = tokens_at nodes n

-- the code of the token of a node at a component
abbrev pub token_in : List Node → ℕ → ℕ → Option ℕ
token_in nodes n k = slice_get (tokens_at nodes n) k

-- of these nodes, numbered from i on, the numbers of those that hang at component k of node n
abbrev pub hanging_from : ℕ → List Node → ℕ → ℕ → List ℕ
hanging_from i [] n k = []
hanging_from i (x ∷ xs) n k = if (x.parent == n) && (x.component == k) then i ∷ hanging_from (suc i) xs n k else hanging_from (suc i) xs n k

-- the nodes that hang at component k of node n, in their order; the root hangs nowhere
abbrev pub hanging : List Node → ℕ → ℕ → List ℕ
hanging [] n k = []
hanging (root ∷ nodes) n k = hanging_from 1 nodes n k

-- how many there are, and the one at a place among them
abbrev pub count_in : List Node → ℕ → ℕ → ℕ
count_in nodes n k = length (hanging nodes n k)

abbrev pub child_in : List Node → ℕ → ℕ → ℕ → Option ℕ
child_in nodes n k i = slice_get (hanging nodes n k) i

-- the place of a node among those that hang at the same component: how many of them stand before it; 0 at the root
abbrev pub index_in : List Node → ℕ → Option ℕ
index_in nodes n = option_map (λ (x : Node). length (hanging (take n nodes) x.parent x.component)) (slice_get nodes n)

-- how many nodes stand in front of these that hang at node n or behind it
abbrev pub below_from : ℕ → List Node → ℕ
below_from n [] = 0
below_from n (x ∷ xs) = if nat_le n x.parent then suc (below_from n xs) else 0

-- these nodes without the first so many
abbrev pub behind : ℕ → List Node → List Node
behind zero nodes = nodes
behind (suc n) [] = []
behind (suc n) (x ∷ nodes) = behind n nodes

-- one past the subtree of a node: the nodes behind it belong to it as long as they hang at it or at one of them
abbrev pub end_in : List Node → ℕ → ℕ
end_in nodes n = suc n + below_from n (behind (suc n) nodes)
