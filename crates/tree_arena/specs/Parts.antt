-- The parts of a tree: one for each component of each node, numbered node by node and in each node by component. At a part hang
-- nodes, or it has a token.
use Rattle.std.specs.Prelude.{ℕ, zero, suc, ◌+◌, List, [], ◌∷◌, Option, Some, None, length, map}
use Rattle.std.specs.List.{flat_map, range_with_len}
use Rattle.tree_arena.specs.Nodes.{Node, end_in}

abbrev pub tokens_in : Node → List ℕ
tokens_in x = x.tokens

-- the codes at the parts, 0 where the part has no token
abbrev pub codes_of : List Node → List ℕ
codes_of nodes = flat_map tokens_in nodes

-- the first part of a node: how many parts the nodes before it have
abbrev pub first_of : List Node → ℕ → ℕ
first_of [] n = 0
first_of (x ∷ nodes) zero = 0
first_of (x ∷ nodes) (suc n) = length x.tokens + first_of nodes n

-- the first part of each node
abbrev pub firsts_of : List Node → List ℕ
firsts_of nodes = map (first_of nodes) (range_with_len 0 (length nodes))

-- the part at which a node hangs that isn't the root
abbrev pub part_of : List Node → Node → ℕ
part_of nodes x = first_of nodes x.parent + x.component

abbrev pub hangs_at : List Node → Node → Option ℕ
hangs_at nodes x = Some (part_of nodes x)

-- the part at which each node hangs; the root hangs nowhere
abbrev pub keys_of : List Node → List (Option ℕ)
keys_of [] = []
keys_of (root ∷ nodes) = None ∷ map (hangs_at (root ∷ nodes)) nodes

-- one past the subtree of each node
abbrev pub ends_of : List Node → List ℕ
ends_of nodes = map (end_in nodes) (range_with_len 0 (length nodes))
