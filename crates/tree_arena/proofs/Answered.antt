-- What a tree answers of a node by what it keeps of it.
use Rattle.std.proofs.Common.{◌≡◌, ℕ, ◌+◌, ◌<◌, ◌≤◌, List, [], Some, length, get_or, slice_get, drop, sym, ap, subst, ◌∙◌, arith}
use Rattle.std.specs.Option.{option_map}
use Rattle.std.proofs.lemmas.List.{get_or-drop, get_or-take}
use Rattle.std.proofs.lemmas.Option.{same_Some, slice_get-get_or}
use Rattle.groups.specs.Groups.{numbers_of}
use Rattle.tree_arena.specs.declared.tree.KeptNode.{KeptNode}
use Rattle.tree_arena.specs.Arena.{IsKept, nodes_among, place_in}
use Rattle.tree_arena.specs.Nodes.{Node, end_in, hanging, index_in, most_nodes, token_in, tokens_at}
use Rattle.tree_arena.specs.Parts.{codes_of, first_of, keys_of}
use Rattle.tree_arena.proofs.Arena.{IsKeptOf, kept_at}
use Rattle.tree_arena.proofs.Hanging.{group_at, hanging_few, hanging_nowhere, hanging_there, length-groups_of}
use Rattle.tree_arena.proofs.Numbered.{codes_found, parts_within, tokens_found}

module _ {kept : List KeptNode} {codes : List ℕ} {children : List (List ℕ)} {nodes : List Node} (seen : nodes_among kept codes ≡ nodes)
    (invariant : IsKept (nodes_among kept codes) kept codes children) where
  -- its value is kept so
  kept_so : IsKept nodes kept codes children
  kept_so = subst (λ ns. IsKept ns kept codes children) seen invariant

  -- of a node that is there
  module _ {n : ℕ} {x : KeptNode} (lt : n < length nodes) (read : x ≡ get_or kept n x) where
    -- this is kept of it
    kept_of_it : IsKeptOf nodes n x
    kept_of_it = kept_at nodes kept n x kept_so.kept_are lt read

    -- its end
    pub end_is : x.end ≡ end_in nodes n
    end_is = ap (λ (y : KeptNode). y.end) kept_of_it.is

    -- its place
    pub index_is : index_in nodes n ≡ Some x.index
    index_is = ap (option_map (λ (y : Node). place_in nodes n y)) kept_of_it.there ∙ ap (λ (y : KeptNode). Some y.index) (sym kept_of_it.is)

    -- how many parts it has
    pub parts_are : x.parts ≡ length (tokens_at nodes n)
    parts_are = ap (λ (y : KeptNode). y.parts) kept_of_it.is ∙ ap length (sym (tokens_found nodes n kept_of_it.node kept_of_it.there))

    -- and which is the first
    first_is : x.first ≡ first_of nodes n
    first_is = ap (λ (y : KeptNode). y.first) kept_of_it.is

    -- its parts are among those with codes
    pub part_within : (k : ℕ) → k < length (tokens_at nodes n) → x.first + k < length codes
    part_within k l = omega (arith, parts_within nodes n, ap length kept_so.codes_are, first_is)

    -- of which there are few
    pub part_fits : (k : ℕ) → k < length (tokens_at nodes n) → x.first + k < 4294967296
    part_fits k l = omega (arith, part_within k l, kept_so.few)

    -- each has a group
    pub group_within : (k : ℕ) → k < x.parts → x.first + k < length children
    group_within k l = omega (arith, part_within k (omega (arith, parts_are)), ap length kept_so.children_are, length-groups_of (keys_of nodes) (length codes))

    -- of the nodes that hang there
    pub hanging_read : (k : ℕ) {hang : List ℕ} → k < x.parts → slice_get children (x.first + k) ≡ Some hang → hang ≡ hanging nodes n k
    hanging_read k {hang} l e =
        let keys = keys_of nodes in
        let there : k < length (tokens_at nodes n) = omega (arith, parts_are) in
        let group = ap (λ cs. slice_get cs (x.first + k)) kept_so.children_are ∙ group_at keys (length codes) (x.first + k) (part_within k there) in
        same_Some hang (numbers_of keys (x.first + k)) (sym e ∙ group) ∙ ap (λ f. numbers_of keys (f + k)) first_is ∙ sym (hanging_there nodes kept_so.tree n k there)

    -- which are few
    pub hanging_read_few : (k : ℕ) {hang : List ℕ} → k < x.parts → slice_get children (x.first + k) ≡ Some hang → length hang ≤ most_nodes
    hanging_read_few k {hang} l e = omega (arith, ap length (hanging_read k l e), hanging_few nodes n k, kept_so.tree.tree.few)

    -- behind its parts nothing hangs
    pub hanging_none : (k : ℕ) → x.parts ≤ k → hanging nodes n k ≡ []
    hanging_none k l = hanging_nowhere nodes kept_so.tree n k (omega (arith, parts_are))

    -- and at each it has its code
    pub token_read : (k v : ℕ) → k < length (tokens_at nodes n) → v ≡ get_or codes (x.first + k) v → token_in nodes n k ≡ Some v
    token_read k v l e =
        let tokens = tokens_at nodes n in
        let all = codes_of nodes in
        let first = first_of nodes n in
        let at : get_or tokens k v ≡ get_or all (first + k) v = ap (λ ts. get_or ts k v) (sym (codes_found nodes n)) ∙ get_or-take (length tokens) (drop first all) k v l ∙ get_or-drop first all k v in
        slice_get-get_or tokens k v l ∙ ap (λ (w : ℕ). Some w) (at ∙ (λ j. get_or (sym kept_so.codes_are j) (sym first_is j + k) v) ∙ sym e)
