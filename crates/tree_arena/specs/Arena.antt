-- A tree as it lies in memory: what is kept of each node, the codes at the parts, and the nodes that hang at each part.
use Rattle.std.specs.Prelude.{◌≡◌, ℕ, suc, ◌<◌, ◌^◌, List, [], ◌∷◌, length, map, take, drop}
use Rattle.groups.specs.Groups.{groups_of}
use Rattle.tree_arena.specs.declared.tree.KeptNode.{KeptNode}
use Rattle.tree_arena.specs.Nodes.{Node, end_in, hanging}
use Rattle.tree_arena.specs.Parts.{codes_of, first_of, keys_of}
use Rattle.tree_arena.specs.Terms.{IsTree}

-- how many of the first n nodes hang where this one does
abbrev pub place_in : List Node → ℕ → Node → ℕ
place_in nodes n x = length (hanging (take n nodes) x.parent x.component)

-- what is kept of the n-th of some nodes
abbrev pub keep : List Node → ℕ → Node → KeptNode
keep nodes n x =
    record { class = x.class; parent = x.parent; component = x.component; index = place_in nodes n x; end = end_in nodes n; first = first_of nodes n; parts = length x.tokens }

-- what is kept of these of the nodes, the first having the number n
abbrev pub kept_from : List Node → ℕ → List Node → List KeptNode
kept_from nodes n [] = []
kept_from nodes n (x ∷ xs) = keep nodes n x ∷ kept_from nodes (suc n) xs

-- what is kept of all nodes
abbrev pub kept_of : List Node → List KeptNode
kept_of nodes = kept_from nodes 0 nodes

-- the node of which this is kept, among these codes
abbrev pub node_among : List ℕ → KeptNode → Node
node_among codes x = record { class = x.class; parent = x.parent; component = x.component; tokens = take x.parts (drop x.first codes) }

-- the nodes of which these are kept
abbrev pub nodes_among : List KeptNode → List ℕ → List Node
nodes_among kept codes = map (node_among codes) kept

-- They are kept of the nodes of a tree, with few parts.
pub record IsKept (nodes : List Node) (kept : List KeptNode) (codes : List ℕ) (children : List (List ℕ)) : Type 0 where
  pub tree : IsTree nodes
  pub few : length codes < 2 ^ 32
  pub kept_are : kept ≡ kept_of nodes
  pub codes_are : codes ≡ codes_of nodes
  pub children_are : children ≡ groups_of (keys_of nodes) (length codes)
