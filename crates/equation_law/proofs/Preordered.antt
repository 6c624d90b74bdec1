-- In a tree of a grammar each node is of the class of the component at which it hangs, or of a subclass. So it is in a tree that a `new` makes, whose
-- root may be of any class.
use Rattle.std.proofs.Common.{◌≡◌, ℕ, zero, suc, ◌+◌, ◌<◌, ◌≤◌, Bool, true, false, eqb, ◌&&◌, cond, List, [], ◌∷◌, ◌++◌, Option, Some, None, length, slice_get, refl, sym, ap, subst, ◌∙◌, arith}
use Rattle.std.specs.Option.{option_map}
use Rattle.std.proofs.lemmas.List.{length-append}
use Rattle.std.proofs.lemmas.Option.{slice_get_past}
use Rattle.ast_grammar.specs.declared.grammar.ClassId.{ClassId}
use Rattle.ast_grammar.specs.declared.grammar.Shape.{Shape}
use Rattle.ast_grammar.specs.declared.grammar.Shape.TheVariants as shapes
use Rattle.ast_grammar.specs.Grammar.{Class, Component, component_at, components_of, is_sub}
use Rattle.attr_rules.specs.Expression.{NewArguments}
use Rattle.attr_rules.specs.Rules.{is_for_nodes}
use Rattle.attr_rules.specs.Typing.{FitComponents, IsConcrete, Makes, Names, child_fits, no_more_components, token_fits}
use Rattle.tree_arena.specs.Nodes.{Node, child_in, class_in, count_in, hanging, hanging_from, parent_in}
use Rattle.tree_arena.specs.Terms.{Empty, Fits, Forest, Hangs, IsTerm, IsTree, IsTreeOf, MayHaveOne, Tree, element, nodes_from, nodes_of, none, one, over, root, size, token}
use Rattle.equation_law.specs.Created.{Making, no_codes, tree_of, trees_from}
use Rattle.equation_law.proofs.Keys.{both_equal}

-- how many nodes trees have
nodes_length : (p n : ℕ) (trees : Forest) → length (nodes_from p n trees) ≡ size trees
nodes_length p n Empty = refl
nodes_length p n (Tree c k tokens below beside) =
    let l = length-append (nodes_from n (suc n) below) (nodes_from p (suc n + size below) beside) in
    let b = nodes_length n (suc n) below in
    let r = nodes_length p (suc n + size below) beside in
    omega (arith, l, b, r)

-- the number of the first node beside a tree
beside_at : (n : ℕ) (below : Forest) → suc n + length (nodes_from n (suc n) below) ≡ suc n + size below
beside_at n below = ap (λ (l : ℕ). suc n + l) (nodes_length n (suc n) below)

-- a node hangs there
abbrev hangs : ℕ → ℕ → Node → Bool
hangs n k x = eqb x.parent n && eqb x.component k

-- a tree may hang at a child and at an optional
one_for_nodes : (s : Shape) → MayHaveOne s → is_for_nodes s ≡ true
one_for_nodes shapes.Child m = refl
one_for_nodes shapes.List m = refl
one_for_nodes shapes.Optional m = refl
one_for_nodes shapes.Text m = absurd m
one_for_nodes shapes.Int m = absurd m
one_for_nodes shapes.Truth m = absurd m

module _ (g : List Class) (cls : ℕ → Option ClassId) where
  -- A node of the class c that hangs at a component of a node is of the component's class or of a subclass, and of no abstract class.
  pub record IsPlaced (c : ClassId) (n k : ℕ) : Type 0 where
    pub parent : ClassId
    pub component : Component
    pub of : cls n ≡ Some parent
    pub has : component_at g parent.0 k ≡ Some component
    pub shape : is_for_nodes component.shape ≡ true
    pub below : is_sub g c.0 component.class.0 ≡ true
    pub concrete : IsConcrete g c.0

  abbrev ArePlaced : List Node → Type 0
  ArePlaced [] = Unit {0}
  ArePlaced (x ∷ xs) = IsPlaced x.class x.parent x.component × ArePlaced xs

  both_placed : (xs ys : List Node) → ArePlaced xs → ArePlaced ys → ArePlaced (xs ++ ys)
  both_placed [] ys a b = b
  both_placed (x ∷ xs) ys a b = (a.0, both_placed xs ys a.1 b)

  -- the classes of these nodes, from number n on
  abbrev AreOf : ℕ → List Node → Type 0
  AreOf n [] = Unit {0}
  AreOf n (x ∷ xs) = (cls n ≡ Some x.class) × AreOf (suc n) xs

  of_left : (n : ℕ) (xs ys : List Node) → AreOf n (xs ++ ys) → AreOf n xs
  of_left n [] ys a = tt
  of_left n (x ∷ xs) ys a = (a.0, of_left (suc n) xs ys a.1)

  of_right : (n m : ℕ) (xs ys : List Node) → n + length xs ≡ m → AreOf n (xs ++ ys) → AreOf m ys
  of_right n m [] ys l a = let same : n ≡ m = omega (arith, l) in subst (λ (i : ℕ). AreOf i ys) same a
  of_right n m (x ∷ xs) ys l a = of_right (suc n) m xs ys (omega (arith, l)) a.1

  of_each : (n : ℕ) (xs : List Node) → ((j m : ℕ) → n + j ≡ m → cls m ≡ class_in xs j) → AreOf n xs
  of_each n [] h = tt
  of_each n (x ∷ xs) h = (h 0 n (omega arith), of_each (suc n) xs (λ j m l. h (suc j) m (omega (arith, l))))

  of_below : (p n k : ℕ) (c : ClassId) (tokens : List ℕ) (below beside : Forest) → AreOf n (nodes_from p n (Tree c k tokens below beside)) → AreOf (suc n) (nodes_from n (suc n) below)
  of_below p n k c tokens below beside a = of_left (suc n) (nodes_from n (suc n) below) (nodes_from p (suc n + size below) beside) a.1

  of_beside : (p n k : ℕ) (c : ClassId) (tokens : List ℕ) (below beside : Forest) → AreOf n (nodes_from p n (Tree c k tokens below beside)) → AreOf (suc n + size below) (nodes_from p (suc n + size below) beside)
  of_beside p n k c tokens below beside a = of_right (suc n) (suc n + size below) (nodes_from n (suc n) below) (nodes_from p (suc n + size below) beside) (beside_at n below) a.1

  -- The components of the class of a node, from the k-th on.
  abbrev AreFrom : ClassId → ℕ → List Component → Type 0
  AreFrom c k xs = (j q : ℕ) → k + j ≡ q → component_at g c.0 q ≡ slice_get xs j

  whole_class : (c : ClassId) → AreFrom c 0 (components_of g c.0)
  whole_class c j q l = let same : q ≡ j = omega (arith, l) in ap (slice_get (components_of g c.0)) same

  later : (c : ClassId) (k : ℕ) (x : Component) (xs : List Component) → AreFrom c k (x ∷ xs) → AreFrom c (suc k) xs
  later c k x xs at j q l = at (suc j) q (omega (arith, l))

  -- a tree at the first of some components of a node
  root_placed : (p k : ℕ) (c b : ClassId) (x : Component) (xs : List Component) → cls p ≡ Some c → AreFrom c k (x ∷ xs) → is_for_nodes x.shape ≡ true → Fits g x.class b → IsPlaced b p k
  root_placed p k c b x xs o at s f = record { parent = c; component = x; of = o; has = at 0 k (omega arith); shape = s; below = f.below; concrete = f.concrete }

  -- the nodes of trees at the components of a node hang where they should
  trees_placed : {texts : ℕ} {xs : List Component} {k : ℕ} {trees : Forest} {codes : List ℕ} → Hangs g texts xs k trees codes → (p n : ℕ) (c : ClassId) → cls p ≡ Some c → AreFrom c k xs → AreOf n (nodes_from p n trees) → ArePlaced (nodes_from p n trees)
  trees_placed over p n c o at a = tt
  trees_placed (token {x = x} {xs = xs} {k = k} i h) p n c o at a = trees_placed h p n c o (later c k x xs at) a
  trees_placed (one {x = x} {xs = xs} {k = k} {c = b} {tokens = tokens} {below = below} {beside = beside} m f h t) p n c o at a = (
    root_placed p k c b x xs o at (one_for_nodes x.shape m) f,
    both_placed (nodes_from n (suc n) below) (nodes_from p (suc n + size below) beside) (trees_placed h n (suc n) b a.0 (whole_class b) (of_below p n k b tokens below beside a))
        (trees_placed t p (suc n + size below) c o (later c k x xs at) (of_beside p n k b tokens below beside a)),
  )
  trees_placed (none {x = x} {xs = xs} {k = k} m h) p n c o at a = trees_placed h p n c o (later c k x xs at) a
  trees_placed (element {x = x} {xs = xs} {k = k} {c = b} {tokens = tokens} {below = below} {beside = beside} i f h t) p n c o at a = (
    root_placed p k c b x xs o at (ap is_for_nodes i) f,
    both_placed (nodes_from n (suc n) below) (nodes_from p (suc n + size below) beside) (trees_placed h n (suc n) b a.0 (whole_class b) (of_below p n k b tokens below beside a))
        (trees_placed t p (suc n + size below) c o at (of_beside p n k b tokens below beside a)),
  )

  -- and so do the nodes of the trees that the arguments of a `new` make
  parts_placed : {N : Names} {parts : NewArguments} {xs : List Component} → FitComponents N parts xs → N.grammar ≡ g → (k p n : ℕ) (c : ClassId) → cls p ≡ Some c → AreFrom c k xs → AreOf n (nodes_from p n (trees_from k parts)) → ArePlaced (nodes_from p n (trees_from k parts))
  parts_placed no_more_components same k p n c o at a = tt
  parts_placed (token_fits {xs = xs} x t u got typed fit h) same k p n c o at a = parts_placed h same (suc k) p n c o (later c k x xs at) a
  parts_placed (child_fits {parts = parts} {rest = rest} {xs = xs} x b shape fit concrete inner h) same k p n c o at a =
      let tokens = no_codes parts in
      let below = trees_from 0 parts in
      let beside = trees_from (suc k) rest in
      let fits : Fits g x.class b = record { below = subst (λ (f : List Class). is_sub f b.0 x.class.0 ≡ true) same fit; concrete = subst (λ (f : List Class). IsConcrete f b.0) same concrete } in
      let whole = subst (λ (f : List Class). AreFrom b 0 (components_of f b.0)) (sym same) (whole_class b) in (
        root_placed p k c b x xs o at (ap is_for_nodes shape) fits,
        both_placed (nodes_from n (suc n) below) (nodes_from p (suc n + size below) beside) (parts_placed inner same 0 n (suc n) b a.0 whole (of_below p n k b tokens below beside a))
            (parts_placed h same (suc k) p (suc n + size below) c o (later c k x xs at) (of_beside p n k b tokens below beside a)),
      )

  -- the first of some nodes at a component, or one behind it
  first_or_later : (n k i m : ℕ) (c : ClassId) (ms : List ℕ) → IsPlaced c n k → cls i ≡ Some c → ((j : ℕ) → slice_get ms j ≡ Some m → (b : ClassId) × (cls m ≡ Some b) × IsPlaced b n k) → (j : ℕ) → slice_get (i ∷ ms) j ≡ Some m → (b : ClassId) × (cls m ≡ Some b) × IsPlaced b n k
  first_or_later n k i m c ms a o h zero e = let same : i ≡ m = cc in (c, ap cls (sym same) ∙ o, a)
  first_or_later n k i m c ms a o h (suc j) e = h j e

  -- each of them that hangs at a component
  hung_placed : (n k i j m : ℕ) (xs : List Node) → ArePlaced xs → AreOf i xs → slice_get (hanging_from i xs n k) j ≡ Some m → (b : ClassId) × (cls m ≡ Some b) × IsPlaced b n k
  hung_placed n k i j m [] a o h = cc
  hung_placed n k i j m (x ∷ xs) a o h =
      elim (hangs n k x) as (λ b. hangs n k x ≡ b → slice_get (cond b (i ∷ hanging_from (suc i) xs n k) (hanging_from (suc i) xs n k)) j ≡ Some m → (c : ClassId) × (cls m ≡ Some c) × IsPlaced c n k) [
        | true ↦ λ e f.
            let b = both_equal x.parent n x.component k e in
            let here = subst (λ (z : ℕ). IsPlaced x.class z k) b.0 (subst (IsPlaced x.class x.parent) b.1 a.0) in
            first_or_later n k i m x.class (hanging_from (suc i) xs n k) here o.0 (λ q. hung_placed n k (suc i) q m xs a.1 o.1) j f
        | false ↦ λ e f. hung_placed n k (suc i) j m xs a.1 o.1 f
      ] refl h

  -- each of them is of a class that is not abstract
  concrete_placed : (j : ℕ) (c : ClassId) (xs : List Node) → ArePlaced xs → class_in xs j ≡ Some c → IsConcrete g c.0
  concrete_placed j c [] a e = cc
  concrete_placed zero c (x ∷ xs) a e = let same : x.class ≡ c = cc in subst (λ (z : ClassId). IsConcrete g z.0) same a.0.concrete
  concrete_placed (suc j) c (x ∷ xs) a e = concrete_placed j c xs a.1 e

  -- at a number that no node has nothing hangs
  none_placed : (n k i : ℕ) (xs : List Node) → ArePlaced xs → cls n ≡ None → hanging_from i xs n k ≡ []
  none_placed n k i [] a e = refl
  none_placed n k i (x ∷ xs) a e =
      elim (hangs n k x) as (λ b. hangs n k x ≡ b → cond b (i ∷ hanging_from (suc i) xs n k) (hanging_from (suc i) xs n k) ≡ []) [
        | true ↦ λ f.
            let b = both_equal x.parent n x.component k f in
            let o = a.0.of in
            let same : cls x.parent ≡ cls n = ap cls b.0 in
            cc
        | false ↦ λ f. none_placed n k (suc i) xs a.1 e
      ] refl

-- The nodes of a tree behind its root hang where they should.
pub record AreGrown (g : List Class) (nodes : List Node) : Type 0 where
  first : Node
  rest : List Node
  are : nodes ≡ first ∷ rest
  concrete : IsConcrete g first.class.0
  of : AreOf g (class_in (first ∷ rest)) 1 rest
  placed : ArePlaced g (class_in (first ∷ rest)) rest

-- those of a tree of which the nodes below the root do
root_grown : (g : List Class) (c : ClassId) (tokens : List ℕ) (below : Forest) → IsConcrete g c.0 → ((cls : ℕ → Option ClassId) → cls 0 ≡ Some c → AreOf g cls 1 (nodes_from 0 1 below) → ArePlaced g cls (nodes_from 0 1 below)) → AreGrown g (nodes_of (Tree c 0 tokens below Empty))
root_grown g c tokens below concrete placed =
    let first : Node = record { class = c; parent = 0; component = 0; tokens = tokens } in
    let rest = nodes_from 0 1 below ++ [] in
    let cls : ℕ → Option ClassId = class_in (first ∷ rest) in
    let of : AreOf g cls 1 rest = of_each g cls 1 rest (λ j m l. let same : m ≡ suc j = omega (arith, l) in ap cls same) in
    record {
      first = first;
      rest = rest;
      are = refl;
      concrete = concrete;
      of = of;
      placed = both_placed g cls (nodes_from 0 1 below) [] (placed cls refl (of_left g cls 1 (nodes_from 0 1 below) [] of)) tt;
    }

term_grown : {g : List Class} {texts : ℕ} {term : Forest} → IsTerm g texts term → AreGrown g (nodes_of term)
term_grown {g} (root {c = c} {tokens = tokens} {below = below} f h) = root_grown g c tokens below f.concrete (λ cls o of. trees_placed g cls h 0 1 c o (whole_class g cls c) of)

pub tree_grown : (g : List Class) (texts : ℕ) (nodes : List Node) → IsTreeOf g texts nodes → AreGrown g nodes
tree_grown g texts nodes t = subst (AreGrown g) (sym t.are) (term_grown t.grown)

-- and those of a tree that is made
pub making_grown : (g : List Class) (N : Names) (m : Making) → Makes N m.class m.arguments → N.grammar ≡ g → AreGrown g (tree_of m)
making_grown g N m makes same =
    let parts = m.arguments in
    root_grown g m.class (no_codes parts) (trees_from 0 parts) (subst (λ (f : List Class). IsConcrete f m.class.0) same makes.concrete)
    (λ cls o of. parts_placed g cls makes.fit same 0 0 1 m.class o (subst (λ (f : List Class). AreFrom g cls m.class 0 (components_of f m.class.0)) (sym same) (whole_class g cls m.class)) of)

-- The parents of these nodes, numbered from n on, have smaller numbers.
abbrev AreBehind : ℕ → List Node → Type 0
AreBehind n [] = Unit {0}
AreBehind n (x ∷ xs) = (x.parent < n) × AreBehind (suc n) xs

both_behind : (n m : ℕ) (xs ys : List Node) → n + length xs ≡ m → AreBehind n xs → AreBehind m ys → AreBehind n (xs ++ ys)
both_behind n m [] ys l a b = let same : m ≡ n = omega (arith, l) in subst (λ (i : ℕ). AreBehind i ys) same b
both_behind n m (x ∷ xs) ys l a b = (a.0, both_behind (suc n) m xs ys (omega (arith, l)) a.1 b)

trees_behind : (p n : ℕ) (trees : Forest) → p < n → AreBehind n (nodes_from p n trees)
trees_behind p n Empty l = tt
trees_behind p n (Tree c k tokens below beside) l = (
  l,
  both_behind (suc n) (suc n + size below) (nodes_from n (suc n) below) (nodes_from p (suc n + size below) beside) (beside_at n below) (trees_behind n (suc n) below (omega arith)) (trees_behind p (suc n + size below) beside (omega (arith, l))),
)

behind_each : (n j u : ℕ) (xs : List Node) → AreBehind n xs → option_map (λ (x : Node). x.parent) (slice_get xs j) ≡ Some u → u < n + j
behind_each n j u [] a e = cc
behind_each n zero u (x ∷ xs) a e = let same : x.parent ≡ u = cc in let before = a.0 in omega (arith, same, before)
behind_each n (suc j) u (x ∷ xs) a e = let later = behind_each (suc n) j u xs a.1 e in omega (arith, later)

-- each parent in the tree of a term has a smaller number
pub term_falls : (term : Forest) (n u : ℕ) → parent_in (nodes_of term) n ≡ Some u → u < n
term_falls term zero u e = cc
term_falls Empty (suc n) u e = cc
term_falls (Tree c k tokens below beside) (suc n) u e =
    let behind = both_behind 1 (1 + size below) (nodes_from 0 1 below) (nodes_from 0 (1 + size below) beside) (beside_at 0 below) (trees_behind 0 1 below (omega arith)) (trees_behind 0 (1 + size below) beside (omega arith)) in
    let before = behind_each 1 n u (nodes_from 0 1 below ++ nodes_from 0 (1 + size below) beside) behind e in
    omega (arith, before)

-- Nothing hangs at a number past the last node.
none_hangs : (nodes : List Node) → IsTree nodes → (n k : ℕ) → length nodes ≤ n → hanging nodes n k ≡ []
none_hangs nodes t n k l =
    let a = tree_grown t.grammar t.texts nodes t.tree in
    let past : class_in nodes n ≡ None = ap (option_map (λ (x : Node). x.class)) (slice_get_past nodes n l) in
    ap (λ (xs : List Node). hanging xs n k) a.are ∙ none_placed t.grammar (class_in (a.first ∷ a.rest)) n k 1 a.rest a.placed (ap (λ (xs : List Node). class_in xs n) (sym a.are) ∙ past)

pub none_past : (nodes : List Node) → IsTree nodes → (n k i : ℕ) → length nodes ≤ n → child_in nodes n k i ≡ None
none_past nodes t n k i l = ap (λ (ms : List ℕ). slice_get ms i) (none_hangs nodes t n k l)

pub none_counted : (nodes : List Node) → IsTree nodes → (n k : ℕ) → length nodes ≤ n → count_in nodes n k ≡ 0
none_counted nodes t n k l = ap length (none_hangs nodes t n k l)

-- a node is of a class that is not abstract
pub grown_concrete : (g : List Class) (nodes : List Node) → AreGrown g nodes → (n : ℕ) (c : ClassId) → class_in nodes n ≡ Some c → IsConcrete g c.0
grown_concrete g nodes a n c e = at n (subst (λ (xs : List Node). class_in xs n ≡ Some c) a.are e)
  where
    at : (n : ℕ) → class_in (a.first ∷ a.rest) n ≡ Some c → IsConcrete g c.0
    at zero h = let same : a.first.class ≡ c = cc in subst (λ (z : ClassId). IsConcrete g z.0) same a.concrete
    at (suc n) h = concrete_placed g (class_in (a.first ∷ a.rest)) n c a.rest a.placed h

pub node_concrete : (g : List Class) (texts : ℕ) (nodes : List Node) → IsTreeOf g texts nodes → (n : ℕ) (c : ClassId) → class_in nodes n ≡ Some c → IsConcrete g c.0
node_concrete g texts nodes t n c e = grown_concrete g nodes (tree_grown g texts nodes t) n c e

-- What hangs at a component of a node is of the component's class or of a subclass.
pub grown_child : (g : List Class) (nodes : List Node) → AreGrown g nodes → (n k i m : ℕ) (c : ClassId) (x : Component) → class_in nodes n ≡ Some c → component_at g c.0 k ≡ Some x → child_in nodes n k i ≡ Some m
    → (b : ClassId) × (class_in nodes m ≡ Some b) × (is_sub g b.0 x.class.0 ≡ true)
grown_child g nodes a n k i m c x y e h =
    let here : class_in (a.first ∷ a.rest) n ≡ Some c = subst (λ (xs : List Node). class_in xs n ≡ Some c) a.are y in
    let f = hung_placed g (class_in (a.first ∷ a.rest)) n k 1 i m a.rest a.placed a.of (subst (λ (xs : List Node). child_in xs n k i ≡ Some m) a.are h) in
    let placed = f.2 in
    let parent : placed.parent ≡ c = let o = placed.of in cc in
    let component : placed.component ≡ x = let o = subst (λ (z : ClassId). component_at g z.0 k ≡ Some placed.component) parent placed.has in cc in
    (f.0, ap (λ (xs : List Node). class_in xs m) a.are ∙ f.1, subst (λ (z : Component). is_sub g f.0.0 z.class.0 ≡ true) component placed.below)

pub child_below : (g : List Class) (texts : ℕ) (nodes : List Node) → IsTreeOf g texts nodes → (n k i m : ℕ) (c : ClassId) (x : Component) → class_in nodes n ≡ Some c → component_at g c.0 k ≡ Some x → child_in nodes n k i ≡ Some m
    → (b : ClassId) × (class_in nodes m ≡ Some b) × (is_sub g b.0 x.class.0 ≡ true)
child_below g texts nodes t n k i m c x y e h = grown_child g nodes (tree_grown g texts nodes t) n k i m c x y e h

-- each of some placed nodes is placed
placed_node : (g : List Class) (cls : ℕ → Option ClassId) (xs : List Node) (j : ℕ) (x : Node) → ArePlaced g cls xs → slice_get xs j ≡ Some x → IsPlaced g cls x.class x.parent x.component
placed_node g cls [] j x a e = cc
placed_node g cls (y ∷ xs) zero x a e = let same : y ≡ x = cc in subst (λ (z : Node). IsPlaced g cls z.class z.parent z.component) same a.0
placed_node g cls (y ∷ xs) (suc j) x a e = placed_node g cls xs j x a.1 e

-- a node that isn't the root hangs at a component of its parent's class
pub grown_placed : (g : List Class) (nodes : List Node) → AreGrown g nodes → (n : ℕ) (x : Node) → slice_get nodes (suc n) ≡ Some x → IsPlaced g (class_in nodes) x.class x.parent x.component
grown_placed g nodes a n x e =
    let there : slice_get (a.first ∷ a.rest) (suc n) ≡ Some x = subst (λ (xs : List Node). slice_get xs (suc n) ≡ Some x) a.are e in
    subst (λ (xs : List Node). IsPlaced g (class_in xs) x.class x.parent x.component) (sym a.are) (placed_node g (class_in (a.first ∷ a.rest)) a.rest n x a.placed there)

pub node_placed : (g : List Class) (texts : ℕ) (nodes : List Node) → IsTreeOf g texts nodes → (n : ℕ) (x : Node) → slice_get nodes (suc n) ≡ Some x → IsPlaced g (class_in nodes) x.class x.parent x.component
node_placed g texts nodes t n x e = grown_placed g nodes (tree_grown g texts nodes t) n x e

-- the root of a source tree is of the first class or of a subclass
term_below : {g : List Class} {texts : ℕ} {term : Forest} → IsTerm g texts term → (c : ClassId) → class_in (nodes_of term) 0 ≡ Some c → is_sub g c.0 0 ≡ true
term_below {g} (root {c = b} f h) c e = let same : b ≡ c = cc in subst (λ (z : ClassId). is_sub g z.0 0 ≡ true) same f.below

pub root_below : (g : List Class) (texts : ℕ) (nodes : List Node) → IsTreeOf g texts nodes → (c : ClassId) → class_in nodes 0 ≡ Some c → is_sub g c.0 0 ≡ true
root_below g texts nodes t c e = term_below t.grown c (subst (λ (xs : List Node). class_in xs 0 ≡ Some c) t.are e)
