-- What the nodes of a `new` say of the tree that it makes.
use Rattle.std.proofs.Common.{◌≡◌, ℕ, zero, suc, ◌+◌, ◌-◌, ◌<◌, ◌≤◌, if◌then◌else◌, nat_lt, ◌⊎◌, List, [], ◌∷◌, ◌++◌, Option, Some, None, IfSome, length, map, slice_get, arith, refl, sym, ap, subst, ◌∙◌, inl, inr}
use Rattle.std.specs.Option.{option_and_then, option_map}
use Rattle.std.proofs.lemmas.Bool.{cases_lt, cond-false, cond-true, eq-eqb, lt-ltb, ltb-false, ltb-true, ne_eqb}
use Rattle.std.proofs.lemmas.List.{append-nil, length-append, length-map}
use Rattle.std.proofs.lemmas.Option.{same_Some, slice_get_within}
use Rattle.attr_rules.specs.Expression.{NewArguments, new_child, new_end, new_token}
use Rattle.attr_rules.specs.Typing.{nodes_below, tokens_made}
use Rattle.tree_arena.specs.Nodes.{Node, child_in, class_in, component_in, parent_in}
use Rattle.tree_arena.specs.Terms.{Empty, Tree, nodes_from, roots_at, size, tree_at}
use Rattle.tree_arena.specs.Accessors.{alone}
use Rattle.tree_arena.proofs.AccessorsLaws.{term_node, term_past}
use Rattle.equation_law.specs.Created.{Making, no_codes, own_tokens, term_of, token_number, tokens_below, tree_of, trees_from}
use Rattle.made_trees.proofs.Naming.{true_or_false}
use Rattle.made_trees.specs.Stands.{Stand, child_place, stands_from, stands_of}

abbrev as_node : Stand → Node
as_node s = record { class = s.class; parent = s.parent; component = s.component; tokens = no_codes s.arguments }

abbrev as_row : Stand → List (Option ℕ)
as_row s = own_tokens s.arguments s.tokens

sizes : (j : ℕ) (parts : NewArguments) → size (trees_from j parts) ≡ nodes_below parts
sizes j new_end = refl
sizes j (new_token k e rest) = sizes (suc j) rest
sizes j (new_child c parts rest) = let a = sizes 0 parts in let b = sizes (suc j) rest in omega (arith, a, b)

map_both : {A B : Type 0} (f : A → B) (xs ys : List A) → map f (xs ++ ys) ≡ map f xs ++ map f ys
map_both f [] ys = refl
map_both f (x ∷ xs) ys = ap (λ (l : List _). f x ∷ l) (map_both f xs ys)

get_map : {A B : Type 0} (f : A → B) (xs : List A) (k : ℕ) → slice_get (map f xs) k ≡ option_map f (slice_get xs k)
get_map f [] k = refl
get_map f (x ∷ xs) zero = refl
get_map f (x ∷ xs) (suc k) = get_map f xs k

pub lengths : (u n j t : ℕ) (parts : NewArguments) → length (stands_from u n j t parts) ≡ nodes_below parts
lengths u n j t new_end = refl
lengths u n j t (new_token k e rest) = lengths u n (suc j) (suc t) rest
lengths u n j t (new_child c parts rest) =
    let a = lengths n (suc n) 0 t parts in
    let b = lengths u (suc n + nodes_below parts) (suc j) (t + tokens_made parts) rest in
    let l = length-append (stands_from n (suc n) 0 t parts) (stands_from u (suc n + nodes_below parts) (suc j) (t + tokens_made parts) rest) in
    omega (arith, a, b, l)

nodes_are : (u n j t : ℕ) (parts : NewArguments) → map as_node (stands_from u n j t parts) ≡ nodes_from u n (trees_from j parts)
nodes_are u n j t new_end = refl
nodes_are u n j t (new_token k e rest) = nodes_are u n (suc j) (suc t) rest
nodes_are u n j t (new_child c parts rest) =
    ap (λ (l : List Node). record { class = c; parent = u; component = j; tokens = no_codes parts } ∷ l)
    (map_both as_node (stands_from n (suc n) 0 t parts) (stands_from u (suc n + nodes_below parts) (suc j) (t + tokens_made parts) rest)
    ∙ (λ i. nodes_are n (suc n) 0 t parts i ++ nodes_are u (suc n + nodes_below parts) (suc j) (t + tokens_made parts) rest i)
    ∙ ap (λ (m : ℕ). nodes_from n (suc n) (trees_from 0 parts) ++ nodes_from u (suc n + m) (trees_from (suc j) rest)) (sym (sizes 0 parts)))

rows_are : (u n j t : ℕ) (parts : NewArguments) → map as_row (stands_from u n j t parts) ≡ tokens_below parts t
rows_are u n j t new_end = refl
rows_are u n j t (new_token k e rest) = rows_are u n (suc j) (suc t) rest
rows_are u n j t (new_child c parts rest) =
    ap (λ (l : List (List (Option ℕ))). own_tokens parts t ∷ l)
    (map_both as_row (stands_from n (suc n) 0 t parts) (stands_from u (suc n + nodes_below parts) (suc j) (t + tokens_made parts) rest)
    ∙ (λ i. rows_are n (suc n) 0 t parts i ++ rows_are u (suc n + nodes_below parts) (suc j) (t + tokens_made parts) rest i))

tree_nodes : (m : Making) → map as_node (stands_of m) ≡ tree_of m
tree_nodes m = ap (λ (l : List Node). record { class = m.class; parent = 0; component = 0; tokens = no_codes m.arguments } ∷ l) (nodes_are 0 1 0 0 m.arguments ∙ sym (append-nil (nodes_from 0 1 (trees_from 0 m.arguments))))

pub length_is : (m : Making) → length (tree_of m) ≡ suc (nodes_below m.arguments)
length_is m = ap length (sym (tree_nodes m)) ∙ length-map (stands_of m) as_node ∙ ap suc (lengths 0 1 0 0 m.arguments)

node_is : (m : Making) (q : ℕ) → slice_get (tree_of m) q ≡ option_map as_node (slice_get (stands_of m) q)
node_is m q = ap (λ (l : List Node). slice_get l q) (sym (tree_nodes m)) ∙ get_map as_node (stands_of m) q

-- the class, the parent and the component of a node
pub class_is : (m : Making) (q : ℕ) → class_in (tree_of m) q ≡ option_map (λ (s : Stand). s.class) (slice_get (stands_of m) q)
class_is m q = ap (option_map (λ (x : Node). x.class)) (node_is m q) ∙ elim (slice_get (stands_of m) q) as (λ o. option_map (λ (x : Node). x.class) (option_map as_node o) ≡ option_map (λ (s : Stand). s.class) o) [
  | None ↦ refl
  | (Some s) ↦ refl
]

pub parent_is : (m : Making) (q : ℕ) (s : Stand) → slice_get (stands_of m) (suc q) ≡ Some s → parent_in (tree_of m) (suc q) ≡ Some s.parent
parent_is m q s e = ap (option_map (λ (x : Node). x.parent)) (node_is m (suc q) ∙ ap (option_map as_node) e)

pub component_is : (m : Making) (q : ℕ) (s : Stand) → slice_get (stands_of m) q ≡ Some s → component_in (tree_of m) q ≡ Some s.component
component_is m q s e = ap (option_map (λ (x : Node). x.component)) (node_is m q ∙ ap (option_map as_node) e)

-- the place of a token
pub token_is : (m : Making) (q k : ℕ) (s : Stand) → slice_get (stands_of m) q ≡ Some s → token_number m q k ≡ option_and_then (λ (x : Option ℕ). x) (slice_get (own_tokens s.arguments s.tokens) k)
token_is m q k s e =
    ap (option_and_then (λ (row : List (Option ℕ)). option_and_then (λ place. place) (slice_get row k)))
    (ap (λ (l : List (List (Option ℕ))). slice_get (own_tokens m.arguments 0 ∷ l) q) (sym (rows_are 0 1 0 0 m.arguments)) ∙ get_map as_row (stands_of m) q ∙ ap (option_map as_row) e)

pub no_token : (m : Making) (q k : ℕ) → slice_get (stands_of m) q ≡ None → token_number m q k ≡ None
no_token m q k e =
    ap (option_and_then (λ (row : List (Option ℕ)). option_and_then (λ place. place) (slice_get row k)))
    (ap (λ (l : List (List (Option ℕ))). slice_get (own_tokens m.arguments 0 ∷ l) q) (sym (rows_are 0 1 0 0 m.arguments)) ∙ get_map as_row (stands_of m) q ∙ ap (option_map as_row) e)

pub get_left : {A : Type 0} (xs ys : List A) (k : ℕ) → k < length xs → slice_get (xs ++ ys) k ≡ slice_get xs k
get_left [] ys k l = absurd (omega (arith, l))
get_left (x ∷ xs) ys zero l = refl
get_left (x ∷ xs) ys (suc k) l = get_left xs ys k (omega (arith, l))

pub get_right : {A : Type 0} (xs ys : List A) (d k : ℕ) → length xs + d ≡ k → slice_get (xs ++ ys) k ≡ slice_get ys d
get_right [] ys d k l = let same : k ≡ d = omega (arith, l) in ap (slice_get ys) same
get_right (x ∷ xs) ys d zero l = absurd (omega (arith, l))
get_right (x ∷ xs) ys d (suc k) l = get_right xs ys d k (omega (arith, l))

-- the trees below a node
trees_at : (u n j t d : ℕ) (parts : NewArguments) (s : Stand) → slice_get (stands_from u n j t parts) d ≡ Some s → tree_at (trees_from j parts) d ≡ Some (Tree s.class s.component (no_codes s.arguments) (trees_from 0 s.arguments) Empty)
trees_at u n j t d new_end s e = cc
trees_at u n j t d (new_token k x rest) s e = trees_at u n (suc j) (suc t) d rest s e
trees_at u n j t zero (new_child c parts rest) s e = ap (λ (o : Option Stand). option_map (λ (y : Stand). Tree y.class y.component (no_codes y.arguments) (trees_from 0 y.arguments) Empty) o) e
trees_at u n j t (suc d) (new_child c parts rest) s e =
    let inner = stands_from n (suc n) 0 t parts in
    let outer = stands_from u (suc n + nodes_below parts) (suc j) (t + tokens_made parts) rest in
    let many = lengths n (suc n) 0 t parts in
    let much = sizes 0 parts in
    elim (true_or_false (nat_lt d (size (trees_from 0 parts)))) [
      | inl h ↦
          let low = ltb-true d (size (trees_from 0 parts)) h in
          cond-true (nat_lt d (size (trees_from 0 parts))) _ _ h ∙ trees_at n (suc n) 0 t d parts s (sym (get_left inner outer d (omega (arith, low, much, many))) ∙ e)
      | inr h ↦
          let high = ltb-false d (size (trees_from 0 parts)) h in
          cond-false (nat_lt d (size (trees_from 0 parts))) _ _ h
          ∙ trees_at u (suc n + nodes_below parts) (suc j) (t + tokens_made parts) (d - size (trees_from 0 parts)) rest s (sym (get_right inner outer (d - size (trees_from 0 parts)) d (omega (arith, high, much, many))) ∙ e)
    ]

tree_is : (m : Making) (q : ℕ) (s : Stand) → slice_get (stands_of m) q ≡ Some s → tree_at (term_of m) q ≡ Some (Tree s.class s.component (no_codes s.arguments) (trees_from 0 s.arguments) Empty)
tree_is m zero s e = ap (λ (o : Option Stand). option_map (λ (y : Stand). Tree y.class y.component (no_codes y.arguments) (trees_from 0 y.arguments) Empty) o) e
tree_is m (suc q) s e =
    let below = slice_get_within (stands_from 0 1 0 0 m.arguments) q s e in
    let many = lengths 0 1 0 0 m.arguments in
    let much = sizes 0 m.arguments in
    cond-true (nat_lt q (size (trees_from 0 m.arguments))) _ _ (lt-ltb q (size (trees_from 0 m.arguments)) (omega (arith, below, many, much))) ∙ trees_at 0 1 0 0 q m.arguments s e

-- those that hang at a component of a node
moved : (j k : ℕ) → j + suc k ≡ suc j + k
moved j k = omega arith

no_roots : (j n k : ℕ) (parts : NewArguments) → k < j → slice_get (roots_at n (trees_from j parts) k) 0 ≡ None
no_roots j n k new_end l = refl
no_roots j n k (new_token t e rest) l = no_roots (suc j) n k rest (omega (arith, l))
no_roots j n k (new_child c parts rest) l =
    ap (λ b. slice_get (if b then n ∷ roots_at (suc n + size (trees_from 0 parts)) (trees_from (suc j) rest) k else roots_at (suc n + size (trees_from 0 parts)) (trees_from (suc j) rest) k) 0) (ne_eqb j k (λ e. omega (arith, e, l)))
    ∙ no_roots (suc j) (suc n + size (trees_from 0 parts)) k rest (omega (arith, l))

roots_are : (j k n : ℕ) (parts : NewArguments) → slice_get (roots_at n (trees_from j parts) (j + k)) 0 ≡ child_place parts n k
roots_are j k n new_end = refl
roots_are j zero n (new_token t e rest) = no_roots (suc j) n (j + 0) rest (omega arith)
roots_are j (suc k) n (new_token t e rest) = ap (λ (x : ℕ). slice_get (roots_at n (trees_from (suc j) rest) x) 0) (moved j k) ∙ roots_are (suc j) k n rest
roots_are j zero n (new_child c parts rest) = ap (λ b. slice_get (if b then n ∷ roots_at (suc n + size (trees_from 0 parts)) (trees_from (suc j) rest) (j + 0) else roots_at (suc n + size (trees_from 0 parts)) (trees_from (suc j) rest) (j + 0)) 0) (eq-eqb j (j + 0) (omega arith))
roots_are j (suc k) n (new_child c parts rest) =
    ap (λ b. slice_get (if b then n ∷ roots_at (suc n + size (trees_from 0 parts)) (trees_from (suc j) rest) (j + suc k) else roots_at (suc n + size (trees_from 0 parts)) (trees_from (suc j) rest) (j + suc k)) 0) (ne_eqb j (j + suc k) (λ e. omega (arith, e)))
    ∙ (λ i. slice_get (roots_at (suc n + sizes 0 parts i) (trees_from (suc j) rest) (moved j k i)) 0) ∙ roots_are (suc j) k (suc n + nodes_below parts) rest

-- the child of a node
pub child_is : (m : Making) (q k : ℕ) (s : Stand) → slice_get (stands_of m) q ≡ Some s → child_in (tree_of m) q k 0 ≡ child_place s.arguments (suc q) k
child_is m q k s e =
    let node = term_node (term_of m) q (Tree s.class s.component (no_codes s.arguments) (trees_from 0 s.arguments) Empty) alone (tree_is m q s e) in
    let same : k ≡ 0 + k = omega arith in
    node.child k 0 ∙ ap (λ (x : ℕ). slice_get (roots_at (suc q) (trees_from 0 s.arguments) x) 0) same ∙ roots_are 0 k (suc q) s.arguments

slice_get_some : {A : Type 0} (xs : List A) (k : ℕ) → k < length xs → (x : A) × (slice_get xs k ≡ Some x)
slice_get_some [] k l = absurd (omega (arith, l))
slice_get_some (x ∷ xs) zero l = (x, refl)
slice_get_some (x ∷ xs) (suc k) l = slice_get_some xs k (omega (arith, l))

-- past the tree there is none
pub no_child : (m : Making) (q k : ℕ) → slice_get (stands_of m) q ≡ None → child_in (tree_of m) q k 0 ≡ None
no_child m q k e = ap (λ (l : List ℕ). slice_get l 0) (term_past (term_of m) q k alone (past (cases_lt q (length (tree_of m)))))
  where
    past : (q < length (tree_of m)) ⊎ (length (tree_of m) ≤ q) → length (tree_of m) ≤ q
    past (inl low) =
        let many = length_is m in
        let all = lengths 0 1 0 0 m.arguments in
        absurd (let there = slice_get_some (stands_of m) q (omega (arith, low, many, all)) in let some = there.1 in cc)
    past (inr high) = high

-- how large the parts of a node are, and that its parent stands in front of it
pub record Bounds (s : Stand) (n d nodes tokens : ℕ) : Type 0 where
  pub below : d + suc (nodes_below s.arguments) ≤ nodes
  pub tokens_there : s.tokens + tokens_made s.arguments ≤ tokens
  pub parent : s.parent < n + d

bounds_from : (u n j t d : ℕ) (parts : NewArguments) (s : Stand) → u < n → slice_get (stands_from u n j t parts) d ≡ Some s → Bounds s n d (nodes_below parts) (t + tokens_made parts)
bounds_from u n j t d new_end s l e = cc
bounds_from u n j t d (new_token k x rest) s l e =
    let r = bounds_from u n (suc j) (suc t) d rest s l e in
    let b = r.tokens_there in
    record { below = r.below; tokens_there = omega (arith, b); parent = r.parent }
bounds_from u n j t zero (new_child c parts rest) s l e =
    subst (λ (y : Stand). Bounds y n 0 (suc (nodes_below parts + nodes_below rest)) (t + (tokens_made parts + tokens_made rest))) (same_Some (record { class = c; arguments = parts; parent = u; component = j; tokens = t }) s e)
    (record { below = omega arith; tokens_there = omega arith; parent = omega (arith, l) })
bounds_from u n j t (suc d) (new_child c parts rest) s l e =
    let inner = stands_from n (suc n) 0 t parts in
    let outer = stands_from u (suc n + nodes_below parts) (suc j) (t + tokens_made parts) rest in
    let many = lengths n (suc n) 0 t parts in
    elim (cases_lt d (nodes_below parts)) [
      | inl low ↦
          let r = bounds_from n (suc n) 0 t d parts s (omega arith) (sym (get_left inner outer d (omega (arith, low, many))) ∙ e) in
          let x = r.below in
          let y = r.tokens_there in
          let z = r.parent in
          record { below = omega (arith, x); tokens_there = omega (arith, y); parent = omega (arith, z) }
      | inr high ↦
          let r = bounds_from u (suc n + nodes_below parts) (suc j) (t + tokens_made parts) (d - nodes_below parts) rest s (omega (arith, l)) (sym (get_right inner outer (d - nodes_below parts) d (omega (arith, high, many))) ∙ e) in
          let x = r.below in
          let y = r.tokens_there in
          let z = r.parent in
          record { below = omega (arith, x, high); tokens_there = omega (arith, y); parent = omega (arith, z, high) }
    ]

pub bounds_of : (m : Making) (q : ℕ) (s : Stand) → slice_get (stands_of m) q ≡ Some s → (q + suc (nodes_below s.arguments) ≤ suc (nodes_below m.arguments)) × (s.tokens + tokens_made s.arguments ≤ tokens_made m.arguments) × (0 < q → s.parent < q)
bounds_of m zero s e =
    subst (λ (y : Stand). (0 + suc (nodes_below y.arguments) ≤ suc (nodes_below m.arguments)) × (y.tokens + tokens_made y.arguments ≤ tokens_made m.arguments) × (0 < 0 → y.parent < 0)) (same_Some (record { class = m.class; arguments = m.arguments; parent = 0; component = 0; tokens = 0 }) s e)
    (omega arith, omega arith, λ l. omega (arith, l))
bounds_of m (suc q) s e =
    let r = bounds_from 0 1 0 0 q m.arguments s (omega arith) e in
    let x = r.below in
    let y = r.tokens_there in
    let z = r.parent in
    (omega (arith, x), omega (arith, y), λ l. omega (arith, z))

pub below_more : (o : Option ℕ) (l m : ℕ) → l ≤ m → IfSome o (λ j. j < l) → IfSome o (λ j. j < m)
below_more None l m le h = tt
below_more (Some j) l m le h = omega (arith, le, h)

-- a child stands in the tree
pub child_below : (parts : NewArguments) (n k : ℕ) → IfSome (child_place parts n k) (λ j. j < n + nodes_below parts)
child_below new_end n k = tt
child_below (new_token t e rest) n zero = tt
child_below (new_token t e rest) n (suc k) = child_below rest n k
child_below (new_child c parts rest) n zero = omega arith
child_below (new_child c parts rest) n (suc k) = below_more (child_place rest (suc n + nodes_below parts) k) (suc n + nodes_below parts + nodes_below rest) (n + suc (nodes_below parts + nodes_below rest)) (omega arith) (child_below rest (suc n + nodes_below parts) k)
