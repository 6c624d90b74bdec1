-- What is offered to a collection: the contributions to its attribute in the subtree of its root, at the nodes of their classes and of subclasses.
use Rattle.std.proofs.Common.{◌≡◌, ◌↔◌, ◌⊎◌, ℕ, zero, suc, ◌<◌, Bool, true, false, ◌&&◌, cond, List, [], ◌∷◌, map, Contains, Option, Some, None, get_or, length, slice_get, eqb, refl, sym, ap, subst, ◌∙◌, inl, inr, arith}
use Rattle.std.specs.List.{filter, flat_map}
use Rattle.std.proofs.lemmas.Bool.{eq-eqb, eqb-true}
use Rattle.std.proofs.lemmas.List.Elements.{Contains-append_cases, Contains-append_left, Contains-append_right}
use Rattle.std.proofs.lemmas.Option.{slice_get_within}
use Rattle.ast_grammar.specs.declared.grammar.ClassId.{ClassId}
use Rattle.attr_rules.specs.Rules.{Contribution}
use Rattle.attr_rules.specs.Types.{is_below}
use Rattle.tree_arena.specs.Nodes.{Node as TreeNode}
use Rattle.tree_arena.specs.Terms.{Forest, IsTerm, nodes_of, root}
use Rattle.ast_grammar.specs.Grammar.{Class}
use Rattle.equation_law.specs.Checked.{IsAt, IsOfferBelow, IsProgram}
use Rattle.equation_law.specs.Collections.{Offer}
use Rattle.equation_law.specs.Equations.{collection_root, is_of_class, is_offered, offers_at, offers_below, subtree, upwards_from}
use Rattle.equation_law.specs.Names.{Source}
use Rattle.equation_law.specs.Program.{Program}
use Rattle.equation_law.proofs.Above.{both_hold, program_tree}
use Rattle.equation_law.proofs.Collected.{at_of}
use Rattle.equation_law.proofs.Lists.{some_of}
use Rattle.equation_law.proofs.Roots.{root_there}
use Rattle.equation_law.proofs.Subtree.{subtree_nodes}

-- an element of a list is its first or one of the others
one_of_them : {X : Type 0} (x : X) (xs : List X) (y : X) → Contains (x ∷ xs) y → (x ≡ y) ⊎ Contains xs y
one_of_them {X} x xs y c = at c.0 c.1 c.2
  where
    at : (k : ℕ) → k < suc (length xs) → get_or (x ∷ xs) k y ≡ y → (x ≡ y) ⊎ Contains xs y
    at zero l e = inl e
    at (suc k) l e = inr (k, omega (arith, l), e)

the_first : {X : Type 0} (x : X) (xs : List X) (y : X) → x ≡ y → Contains (x ∷ xs) y
the_first x xs y e = (0, omega arith, e)

an_other : {X : Type 0} (x : X) (xs : List X) (y : X) → Contains xs y → Contains (x ∷ xs) y
an_other x xs y c = let l = c.1 in (suc c.0, omega (arith, l), c.2)

no_element : {X : Type 0} (y : X) → Contains [] y → ⊥
no_element y c = let l = c.1 in absurd (omega (arith, l))

-- those that pass a test
in_filter : {X : Type 0} (test : X → Bool) (xs : List X) (y : X) → Contains (filter test xs) y → Contains xs y × (test y ≡ true)
in_filter test [] y c = absurd (no_element y c)
in_filter test (x ∷ xs) y c = elim (test x) as (λ b. test x ≡ b → Contains (cond b (x ∷ filter test xs) (filter test xs)) y → Contains (x ∷ xs) y × (test y ≡ true)) [
  | true ↦ λ t d. elim (one_of_them x (filter test xs) y d) [
    | inl e ↦ (the_first x xs y e, ap test (sym e) ∙ t)
    | inr f ↦ let rest = in_filter test xs y f in (an_other x xs y rest.0, rest.1)
  ]
  | false ↦ λ t d. let rest = in_filter test xs y d in (an_other x xs y rest.0, rest.1)
] refl c

filter_has : {X : Type 0} (test : X → Bool) (xs : List X) (y : X) → Contains xs y → test y ≡ true → Contains (filter test xs) y
filter_has test [] y c t = absurd (no_element y c)
filter_has test (x ∷ xs) y c t = elim (test x) as (λ b. test x ≡ b → Contains (cond b (x ∷ filter test xs) (filter test xs)) y) [
  | true ↦ λ u. elim (one_of_them x xs y c) [
    | inl e ↦ the_first x (filter test xs) y e
    | inr f ↦ an_other x (filter test xs) y (filter_has test xs y f t)
  ]
  | false ↦ λ u. elim (one_of_them x xs y c) [
    | inl e ↦ let same = ap test e in absurd (cc)
    | inr f ↦ filter_has test xs y f t
  ]
] refl

-- what is made of each
in_map : {X Y : Type 0} (f : X → Y) (xs : List X) (y : Y) → Contains (map f xs) y → (x : X) × Contains xs x × (f x ≡ y)
in_map f [] y c = absurd (no_element y c)
in_map f (x ∷ xs) y c = elim (one_of_them (f x) (map f xs) y c) [
  | inl e ↦ (x, the_first x xs x refl, e)
  | inr d ↦ let rest = in_map f xs y d in (rest.0, an_other x xs rest.0 rest.1, rest.2)
]

map_has : {X Y : Type 0} (f : X → Y) (xs : List X) (x : X) → Contains xs x → Contains (map f xs) (f x)
map_has f [] x c = absurd (no_element x c)
map_has f (y ∷ xs) x c = elim (one_of_them y xs x c) [
  | inl e ↦ the_first (f y) (map f xs) (f x) (ap f e)
  | inr d ↦ an_other (f y) (map f xs) (f x) (map_has f xs x d)
]

-- what some of them have
in_all : {X Y : Type 0} (f : X → List Y) (xs : List X) (y : Y) → Contains (flat_map f xs) y → (x : X) × Contains xs x × Contains (f x) y
in_all f [] y c = absurd (no_element y c)
in_all f (x ∷ xs) y c = elim (Contains-append_cases (f x) (flat_map f xs) y c) [
  | inl d ↦ (x, the_first x xs x refl, d)
  | inr d ↦ let rest = in_all f xs y d in (rest.0, an_other x xs rest.0 rest.1, rest.2)
]

all_have : {X Y : Type 0} (f : X → List Y) (xs : List X) (x : X) (y : Y) → Contains xs x → Contains (f x) y → Contains (flat_map f xs) y
all_have f [] x y c d = absurd (no_element x c)
all_have f (z ∷ xs) x y c d = elim (one_of_them z xs x c) [
  | inl e ↦ Contains-append_left (f z) (flat_map f xs) y (subst (λ w. Contains (f w) y) (sym e) d)
  | inr g ↦ Contains-append_right (f z) (flat_map f xs) y (all_have f xs x y g d)
]

-- a tree has a root
some_nodes : (g : List Class) (texts : ℕ) (nodes : List TreeNode) (term : Forest) → IsTerm g texts term → nodes ≡ nodes_of term → 0 < length nodes
some_nodes g texts nodes _ (root fits hangs) e = let long = ap length e in omega (arith, long)

module _ (p : Program) (good : IsProgram p) (a : ℕ) where
  abbrev offer : ℕ → Contribution → Offer
  offer k c = record { contribution = c; node = k }

  both_are : (x y : Bool) → x ≡ true → y ≡ true → (x && y) ≡ true
  both_are x y e f = ap (λ b. b && y) e ∙ f

  stands_there : (k : ℕ) (c : ClassId) → IsAt p k c → is_of_class p c (Source k) ≡ true
  stands_there k c h = ap (λ (o : Option ClassId). is_below p.grammar o c) h.of ∙ h.below

  at_node : (k : ℕ) (o : Offer) → Contains (offers_at p a k) o → (o.node ≡ k) × Contains p.rules.contributions o.contribution × (o.contribution.target.0 ≡ a) × IsAt p o.node o.contribution.class
  at_node k o c =
      let made = in_map (offer k) (filter (is_offered p a k) p.rules.contributions) o c in
      let passed = in_filter (is_offered p a k) p.rules.contributions made.0 made.1 in
      let both = both_hold (eqb made.0.target.0 a) (is_of_class p made.0.class (Source k)) passed.1 in
      subst (λ (x : Offer). (x.node ≡ k) × Contains p.rules.contributions x.contribution × (x.contribution.target.0 ≡ a) × IsAt p x.node x.contribution.class) made.2
      (refl, passed.0, eqb-true made.0.target.0 a both.0, at_of p k made.0.class both.1)

  node_has : (o : Offer) → Contains p.rules.contributions o.contribution → o.contribution.target.0 ≡ a → IsAt p o.node o.contribution.class → Contains (offers_at p a o.node) o
  node_has o c t h =
      map_has (offer o.node) (filter (is_offered p a o.node) p.rules.contributions) o.contribution
      (filter_has (is_offered p a o.node) p.rules.contributions o.contribution c (both_are (eqb o.contribution.target.0 a) (is_of_class p o.contribution.class (Source o.node)) (eq-eqb o.contribution.target.0 a t) (stands_there o.node o.contribution.class h)))

  below_root : (r : ℕ) → r < length p.tree → (o : Offer) → Contains (offers_below p a (Some r)) o ↔ IsOfferBelow p a r o
  below_root r w o = (
    λ c.
        let found = in_all (offers_at p a) (subtree p.tree r) o c in
        let at = at_node found.0 o found.2 in
        let under = (subtree_nodes p.tree (program_tree p good) r found.0 w).0 found.1 in
        record {
          contribution = at.1;
          target = at.2;
          stands = at.3;
          within = subst (λ (k : ℕ). k < length p.tree) (sym at.0) under.0;
          under = subst (λ (k : ℕ). Contains (upwards_from k p.tree k) r) (sym at.0) under.1;
        },
    λ h. all_have (offers_at p a) (subtree p.tree r) o.node o ((subtree_nodes p.tree (program_tree p good) r o.node w).1 (h.within, h.under)) (node_has o h.contribution h.target h.stands),
  )

  -- a root is a node of the tree
  root_within : (c : Option ClassId) (k r : ℕ) → collection_root p c k ≡ Some r → 0 < length p.tree → r < length p.tree
  root_within None k r e some = let same : 0 ≡ r = cc in omega (arith, same, some)
  root_within (Some c) k r e some =
      let at = at_of p r c (root_there p good c k r e).1 in
      let x = some_of (λ (n : TreeNode). n.class) (slice_get p.tree r) at.class at.of in
      slice_get_within p.tree r x.0 x.1

  pub offers_are : (c : Option ClassId) (k r : ℕ) → collection_root p c k ≡ Some r → (o : Offer) → Contains (offers_below p a (collection_root p c k)) o ↔ IsOfferBelow p a r o
  offers_are c k r e o =
      let some = some_nodes p.grammar (length p.texts) p.tree good.tree.term good.tree.grown good.tree.are in
      subst (λ (x : Option ℕ). Contains (offers_below p a x) o ↔ IsOfferBelow p a r o) (sym e) (below_root r (root_within c k r e some) o)
