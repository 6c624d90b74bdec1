-- Nodes without where their tokens lie in memory, turn by turn.
use Rattle.std.proofs.Common.{◌≡◌, ℕ, zero, suc, ◌+◌, ◌<◌, ◌≤◌, List, [], ◌∷◌, ◌++◌, Some, length, get_or, slice_get, take, map, refl, ap, ◌∙◌, arith, append-nil}
use Rattle.std.specs.Option.{option_map}
use Rattle.std.proofs.lemmas.List.{length-map, length-take-le, take_more}
use Rattle.std.proofs.lemmas.List.Concat.{flat_map-append}
use Rattle.std.proofs.lemmas.List.FromFn.{get_or-map-range_with_len, length-map-range_with_len}
use Rattle.std.proofs.lemmas.Option.{get_or_from_slice_get, slice_get-map, slice_get_read, slice_get_within}
use Rattle.tree_arena.specs.declared.tree.FirstNode.{FirstNode}
use Rattle.tree_arena.specs.Kept.{node_of}
use Rattle.tree_arena.specs.Nodes.{Node, end_in}
use Rattle.tree_arena.specs.Parts.{codes_of, ends_of, first_of, firsts_of, hangs_at, keys_of, part_of, tokens_in}
use Rattle.tree_arena.specs.Terms.{IsTree}
use Rattle.tree_arena.proofs.Grown.{IsHung, hung_node}
use Rattle.tree_arena.proofs.Numbered.{parts_within, tokens_found}

module _ (items : List FirstNode) where
  -- as many are seen as there are
  pub length-seen : length (map node_of items) ≡ length items
  length-seen = length-map items node_of

  -- the node that is read at a number
  pub seen_at : (i : ℕ) (x : FirstNode) → x ≡ get_or items i x → i < length items → slice_get (map node_of items) i ≡ Some (node_of x)
  seen_at i x is lt = slice_get-map node_of items i ∙ ap (option_map node_of) (slice_get_read items (length items) i x refl lt is)

  -- so many before a number
  pub length-take_seen : (i : ℕ) → i < length items → 0 + length (take i (map node_of items)) ≡ i
  length-take_seen i lt = omega (arith, length-take-le i (map node_of items) (omega (arith, length-seen)))

  -- one node more
  pub seen_more : (i : ℕ) (x : FirstNode) → x ≡ get_or items i x → i < length items → take (i + 1) (map node_of items) ≡ take i (map node_of items) ++ node_of x ∷ []
  seen_more i x is lt =
      let seen = map node_of items in
      let within : i < length seen = slice_get_within seen i (node_of x) (seen_at i x is lt) in
      take_more seen i (node_of x) within ∙ ap (λ (y : Node). take i seen ++ y ∷ []) (get_or_from_slice_get seen i (node_of x) (node_of x) (seen_at i x is lt))

  -- and its codes
  pub codes_more : (i : ℕ) (x : FirstNode) → x ≡ get_or items i x → i < length items → codes_of (take (i + 1) (map node_of items)) ≡ codes_of (take i (map node_of items)) ++ x.tokens
  codes_more i x is lt =
      let before = take i (map node_of items) in
      ap codes_of (seen_more i x is lt) ∙ flat_map-append tokens_in before (node_of x ∷ []) ∙ ap (λ ts. codes_of before ++ ts) (append-nil x.tokens)

  -- a node's codes are among those of all
  pub codes_within : (i : ℕ) (x : FirstNode) → x ≡ get_or items i x → i < length items → first_of (map node_of items) i + length x.tokens ≤ length (codes_of (map node_of items))
  codes_within i x is lt = omega (arith, parts_within (map node_of items) i, ap length (tokens_found (map node_of items) i (node_of x) (seen_at i x is lt)))

-- a node that isn't the root hangs
pub hung_at : (nodes : List Node) → IsTree nodes → (n : ℕ) (x : Node) → 0 < n → slice_get nodes n ≡ Some x → IsHung nodes n x
hung_at nodes t zero x some there = absurd (omega (arith, some))
hung_at nodes t (suc n) x some there = hung_node nodes t n x there

-- the part at which it does is one of the tree's
pub part_at : (nodes : List Node) → IsTree nodes → (n : ℕ) (x : Node) → 0 < n → slice_get nodes n ≡ Some x → part_of nodes x < length (codes_of nodes)
part_at nodes t n x some there =
    let hung = hung_at nodes t n x some there in
    let within = hung.within in
    omega (arith, parts_within nodes x.parent)

-- its key is that part
pub key_at : (nodes : List Node) (n : ℕ) (x : Node) → 0 < n → slice_get nodes n ≡ Some x → slice_get (keys_of nodes) n ≡ Some (hangs_at nodes x)
key_at nodes zero x some there = absurd (omega (arith, some))
key_at [] (suc n) x some there = absurd cc
key_at (root ∷ rest) (suc n) x some there = slice_get-map (hangs_at (root ∷ rest)) rest n ∙ ap (option_map (hangs_at (root ∷ rest))) there

-- the first part of a node in the list of first parts
pub first_at : (nodes : List Node) (n : ℕ) (d : ℕ) → n < length nodes → get_or (firsts_of nodes) n d ≡ first_of nodes n
first_at nodes n d lt = get_or-map-range_with_len (first_of nodes) 0 (length nodes) n n d lt (omega arith)

-- its end in the list of ends
pub end_at : (nodes : List Node) (n : ℕ) (d : ℕ) → n < length nodes → get_or (ends_of nodes) n d ≡ end_in nodes n
end_at nodes n d lt = get_or-map-range_with_len (end_in nodes) 0 (length nodes) n n d lt (omega arith)

-- there are as many first parts as nodes
pub length-firsts_of : (nodes : List Node) → length (firsts_of nodes) ≡ length nodes
length-firsts_of nodes = length-map-range_with_len (first_of nodes) 0 (length nodes)

-- and as many ends
pub length-ends_of : (nodes : List Node) → length (ends_of nodes) ≡ length nodes
length-ends_of nodes = length-map-range_with_len (end_in nodes) 0 (length nodes)
