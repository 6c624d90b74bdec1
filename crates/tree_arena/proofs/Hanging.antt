-- The nodes that hang at a component are those whose part is that one.
use Rattle.std.proofs.Common.{◌≡◌, ℕ, zero, suc, ◌+◌, ◌<◌, ◌≤◌, Bool, true, false, cond, eqb, ◌&&◌, List, [], ◌∷◌, Option, Some, None, length, get_or, slice_get, take, map, refl, sym, ap, subst, ◌∙◌, arith, add-one}
use Rattle.std.specs.Bool.{Decides}
use Rattle.std.specs.Option.{option_map}
use Rattle.std.proofs.lemmas.Bool.{and_parts, eqb-true, false_from_ne_true}
use Rattle.std.proofs.lemmas.Bool.Decides.{Decides-and, Decides-eqb, Decides-like, same_from_decides}
use Rattle.std.proofs.lemmas.List.{length-map, take-map}
use Rattle.std.proofs.lemmas.List.FromFn.{get_or-map-range_with_len, length-map-range_with_len}
use Rattle.std.proofs.lemmas.Option.{get_or_from_slice_get, slice_get-get_or, slice_get-map, slice_get_within}
use Rattle.groups.specs.Groups.{AreWithin, groups_of, numbers_from, numbers_of, place_after, place_of, places_of}
use Rattle.tree_arena.specs.Arena.{place_in}
use Rattle.tree_arena.specs.Nodes.{Node, hanging, hanging_from, tokens_at}
use Rattle.tree_arena.specs.Parts.{codes_of, first_of, hangs_at, keys_of, part_of}
use Rattle.tree_arena.specs.Terms.{IsTree}
use Rattle.tree_arena.proofs.Grown.{AreHung, IsHung, hung_among, hung_take, of_tree}
use Rattle.tree_arena.proofs.Numbered.{part_is, parts_within}

module _ (all : List Node) where
  -- a node hangs at a component where its part is that one
  same_part : (m : ℕ) (x : Node) (n k : ℕ) → IsHung all m x → k < length (tokens_at all n) → (eqb x.parent n && eqb x.component k) ≡ eqb (part_of all x) (first_of all n + k)
  same_part m x n k h l =
      let there = eqb x.parent n && eqb x.component k in
      let same = eqb (part_of all x) (first_of all n + k) in
      let both : Decides there ((x.parent ≡ n) × (x.component ≡ k)) = Decides-and (eqb x.parent n) (eqb x.component k) (Decides-eqb x.parent n) (Decides-eqb x.component k) in
      let forth = λ (e : part_of all x ≡ first_of all n + k). part_is all x.parent x.component n k h.within l e in
      let back : (x.parent ≡ n) × (x.component ≡ k) → part_of all x ≡ first_of all n + k = λ e. (λ j. first_of all (e.0 j) + e.1 j) in
      same_from_decides there same both (Decides-like same forth back (Decides-eqb (part_of all x) (first_of all n + k)))

  -- so those that hang there are those in the group of the part
  hanging_is : (i n k : ℕ) (xs : List Node) → AreHung all i xs → k < length (tokens_at all n) → hanging_from i xs n k ≡ numbers_from i (map (hangs_at all) xs) (first_of all n + k)
  hanging_is i n k [] h l = refl
  hanging_is i n k (x ∷ xs) h l =
      let same = same_part i x n k h.0 l in
      let later = hanging_is (suc i) n k xs h.1 l ∙ ap (λ m. numbers_from m (map (hangs_at all) xs) (first_of all n + k)) (sym (add-one i)) in
      (λ j. cond (same j) (i ∷ later j) (later j))

  -- at a component that a node hasn't, nothing hangs
  none_hang : (i n k : ℕ) (xs : List Node) → AreHung all i xs → length (tokens_at all n) ≤ k → hanging_from i xs n k ≡ []
  none_hang i n k [] h l = refl
  none_hang i n k (x ∷ xs) h l =
      let later = none_hang (suc i) n k xs h.1 l in
      let elsewhere : (eqb x.parent n && eqb x.component k) ≡ false = false_from_ne_true (eqb x.parent n && eqb x.component k) (λ e. apart i x n k h.0 l (and_parts (eqb x.parent n) (eqb x.component k) e)) in
      (λ j. cond (elsewhere j) (i ∷ hanging_from (suc i) xs n k) (later j))
    where
      apart : (i : ℕ) (x : Node) (n k : ℕ) → IsHung all i x → length (tokens_at all n) ≤ k → (eqb x.parent n ≡ true) × (eqb x.component k ≡ true) → ⊥
      apart i x n k h l e =
          let at = eqb-true x.component k e.1 in
          let within = h.within in
          let same : length (tokens_at all x.parent) ≡ length (tokens_at all n) = ap (λ m. length (tokens_at all m)) (eqb-true x.parent n e.0) in
          absurd (omega arith)

-- at most one more than there were
few_cond : (b : Bool) (i : ℕ) (xs : List ℕ) (m : ℕ) → length xs ≤ m → length (cond b (i ∷ xs) xs) ≤ suc m
few_cond true i xs m h = omega (arith, h)
few_cond false i xs m h = omega (arith, h)

-- no more hang at a component than there are nodes
few_from : (i n k : ℕ) (xs : List Node) → length (hanging_from i xs n k) ≤ length xs
few_from i n k [] = omega arith
few_from i n k (x ∷ xs) = few_cond (eqb x.parent n && eqb x.component k) i (hanging_from (suc i) xs n k) (length xs) (few_from (suc i) n k xs)

-- also of all nodes
pub hanging_few : (nodes : List Node) (n k : ℕ) → length (hanging nodes n k) ≤ length nodes
hanging_few [] n k = omega arith
hanging_few (root ∷ nodes) n k = omega (arith, few_from 1 n k nodes)

-- the nodes that hang at a component of a node are those of its part
pub hanging_there : (nodes : List Node) → IsTree nodes → (n k : ℕ) → k < length (tokens_at nodes n) → hanging nodes n k ≡ numbers_of (keys_of nodes) (first_of nodes n + k)
hanging_there nodes t =
    of_tree (λ (xs : List Node). (n k : ℕ) → k < length (tokens_at xs n) → hanging xs n k ≡ numbers_of (keys_of xs) (first_of xs n + k))
    (λ root rest h n k l. hanging_is (root ∷ rest) 1 n k rest h l) nodes t

-- and at a component that it hasn't, none do
pub hanging_nowhere : (nodes : List Node) → IsTree nodes → (n k : ℕ) → length (tokens_at nodes n) ≤ k → hanging nodes n k ≡ []
hanging_nowhere nodes t = of_tree (λ (xs : List Node). (n k : ℕ) → length (tokens_at xs n) ≤ k → hanging xs n k ≡ []) (λ root rest h n k l. none_hang (root ∷ rest) 1 n k rest h l) nodes t

-- each node has a key
pub length-keys_of : (nodes : List Node) → length (keys_of nodes) ≡ length nodes
length-keys_of [] = refl
length-keys_of (root ∷ nodes) = ap suc (length-map nodes (hangs_at (root ∷ nodes)))

-- what is mapped to something was there
some_of : {A B : Type 0} (f : A → B) (o : Option A) (y : B) → option_map f o ≡ Some y → (x : A) × (o ≡ Some x) × (f x ≡ y)
some_of f None y e = cc
some_of f (Some x) y e = (x, refl, cc)

-- the part at which a node hangs is one of those of the tree
key_within : (root : Node) (rest : List Node) → AreHung (root ∷ rest) 1 rest → (i g : ℕ) → slice_get (keys_of (root ∷ rest)) i ≡ Some (Some g) → g < length (codes_of (root ∷ rest))
key_within root rest h zero g e = absurd cc
key_within root rest h (suc i) g e =
    let all = root ∷ rest in
    let found = some_of (hangs_at all) (slice_get rest i) (Some g) (sym (slice_get-map (hangs_at all) rest i) ∙ e) in
    let x = found.0 in
    let hung = hung_among all 1 rest i (suc i) x (omega arith) h found.1 in
    let same : part_of all x ≡ g = let some = found.2 in cc in
    let within = hung.within in
    omega (arith, parts_within all x.parent)

-- however many they are said to be
pub keys_within : (nodes : List Node) → IsTree nodes → {count : ℕ} → count ≡ length (codes_of nodes) → AreWithin (keys_of nodes) count
keys_within nodes t e =
    subst (AreWithin (keys_of nodes)) (sym e)
    (of_tree (λ (xs : List Node). AreWithin (keys_of xs) (length (codes_of xs))) (λ root rest h. record { within = key_within root rest h }) nodes t)

-- the place of a node is how many nodes before it have its part
place_rooted : (root : Node) (rest : List Node) → AreHung (root ∷ rest) 1 rest → (n : ℕ) (x : Node) → slice_get (root ∷ rest) n ≡ Some x → place_of (keys_of (root ∷ rest)) n ≡ place_in (root ∷ rest) n x
place_rooted root rest h zero x e = refl
place_rooted root rest h (suc n) x e =
    let all = root ∷ rest in
    let keys = map (hangs_at all) rest in
    let part = part_of all x in
    let key : get_or keys n None ≡ Some part = get_or_from_slice_get keys n (Some part) None (slice_get-map (hangs_at all) rest n ∙ ap (option_map (hangs_at all)) e) in
    let hung = hung_among all 1 rest n (suc n) x (omega arith) h e in
    ap (place_after (None ∷ take n keys)) key
    ∙ ap length (ap (λ ks. numbers_from 1 ks part) (take-map (hangs_at all) n rest) ∙ sym (hanging_is all 1 x.parent x.component (take n rest) (hung_take all 1 n rest h) hung.within))

-- in any tree
pub place_is : (nodes : List Node) → IsTree nodes → (n : ℕ) (x : Node) → slice_get nodes n ≡ Some x → place_of (keys_of nodes) n ≡ place_in nodes n x
place_is nodes t = of_tree (λ (xs : List Node). (n : ℕ) (x : Node) → slice_get xs n ≡ Some x → place_of (keys_of xs) n ≡ place_in xs n x) place_rooted nodes t

-- the members of a group of so many
pub group_at : (keys : List (Option ℕ)) (count g : ℕ) → g < count → slice_get (groups_of keys count) g ≡ Some (numbers_of keys g)
group_at keys count g l =
    let groups = groups_of keys count in
    let many : length groups ≡ count = length-map-range_with_len (numbers_of keys) 0 count in
    slice_get-get_or groups g [] (omega arith) ∙ ap (λ (xs : List ℕ). Some xs) (get_or-map-range_with_len (numbers_of keys) 0 count g g [] l (omega arith))

-- there are as many groups
pub length-groups_of : (keys : List (Option ℕ)) (count : ℕ) → length (groups_of keys count) ≡ count
length-groups_of keys count = length-map-range_with_len (numbers_of keys) 0 count

-- there are as many places as keys
pub length-places_of : (keys : List (Option ℕ)) → length (places_of keys) ≡ length keys
length-places_of keys = length-map-range_with_len (place_of keys) 0 (length keys)

-- the place of a node in the list of places
pub place_at : (nodes : List Node) → IsTree nodes → (n : ℕ) (x : Node) (d : ℕ) → slice_get nodes n ≡ Some x → get_or (places_of (keys_of nodes)) n d ≡ place_in nodes n x
place_at nodes t n x d there =
    let keys = keys_of nodes in
    let within : n < length keys = omega (arith, length-keys_of nodes, slice_get_within nodes n x there) in
    get_or-map-range_with_len (place_of keys) 0 (length keys) n n d within (omega arith) ∙ place_is nodes t n x there
