-- The nodes that stand inside some instances: those of the trees that these make, and those that these are at and have as arguments, with all that
-- stand inside of them in turn.
use Rattle.std.proofs.Common.{◌≡◌, ℕ, ◌<◌, true, false, ◌||◌, List, [], ◌∷◌, ◌++◌, length, refl, sym, subst, ◌∙◌, inl, inr}
use Rattle.solutions.specs.Rounds.{is_in}
use Rattle.equation_law.specs.Names.{Argument, At, Instance, Made, NodeName, Null, OfInt, OfNode, OfText, OfTruth, Reference, Row, Source, end_row, made_by, row, same_instance}
use Rattle.equation_law.specs.Program.{Program, tree_made}
use Rattle.equation_law.proofs.Among.{HasArgument, HasInside, HasReference, HasRow}
use Rattle.equation_law.proofs.Finite.{Finite, In, finite_below, finite_map, in_either, in_left, in_right}
use Rattle.equation_law.proofs.Names.{same_instance_is}

module _ (p : Program) where
  -- the nodes of a tree that was made
  made_nodes : (a : ℕ) (r : Reference) (xs : Row) → Finite (λ (n : NodeName). (m : ℕ) × (m < length (tree_made p a r)) × (n ≡ Made a r xs m))
  made_nodes a r xs = finite_map (Made a r xs) (finite_below (length (tree_made p a r)))

  abbrev tree_names : ℕ → Reference → Row → List NodeName
  tree_names a r xs = (made_nodes a r xs).elements

  -- a node with all that stand inside of it
  abbrev mutual
    node_names : NodeName → List NodeName
    node_names (Source k) = Source k ∷ []
    node_names (Made a r xs q) = Made a r xs q ∷ (tree_names a r xs ++ (reference_names r ++ row_names xs))

    reference_names : Reference → List NodeName
    reference_names Null = []
    reference_names (At n) = node_names n

    argument_names : Argument → List NodeName
    argument_names (OfTruth b) = []
    argument_names (OfInt z) = []
    argument_names (OfText t) = []
    argument_names (OfNode r) = reference_names r

    row_names : Row → List NodeName
    row_names end_row = []
    row_names (row x xs) = argument_names x ++ row_names xs

  -- it stands there itself
  itself : (n : NodeName) → In (node_names n) n
  itself (Source k) = inl refl
  itself (Made a r xs q) = inl refl

  -- all nodes of a tree have the same inside of them
  tree_then : (a : ℕ) (r : Reference) (xs : Row) (y z : NodeName) → In (tree_names a r xs) y → In (node_names y) z → In (tree_names a r xs ++ (reference_names r ++ row_names xs)) z
  tree_then a r xs y z h g =
      let from = (made_nodes a r xs).sound y h in
      let rest = reference_names r ++ row_names xs in
      elim (subst (λ (n : NodeName). In (node_names n) z) from.2 g) [
        | inl e ↦ in_left (tree_names a r xs) rest z (subst (In (tree_names a r xs)) (from.2 ∙ sym e) h)
        | inr i ↦ i
      ]

  -- what stands inside a node that stands inside another stands inside the other
  mutual
    node_then : (x y z : NodeName) → In (node_names x) y → In (node_names y) z → In (node_names x) z
    node_then (Source k) y z h g = elim h [
      | inl e ↦ subst (λ (n : NodeName). In (node_names n) z) e g
      | inr n ↦ absurd n
    ]
    node_then (Made a r xs q) y z h g =
        let own = tree_names a r xs in
        let rest = reference_names r ++ row_names xs in
        elim h [
          | inl e ↦ subst (λ (n : NodeName). In (node_names n) z) e g
          | inr i ↦ elim (in_either own rest y i) [
            | inl t ↦ inr (tree_then a r xs y z t g)
            | inr b ↦ elim (in_either (reference_names r) (row_names xs) y b) [
              | inl c ↦ inr (in_right own rest z (in_left (reference_names r) (row_names xs) z (reference_then r y z c g)))
              | inr d ↦ inr (in_right own rest z (in_right (reference_names r) (row_names xs) z (row_then xs y z d g)))
            ]
          ]
        ]

    reference_then : (r : Reference) (y z : NodeName) → In (reference_names r) y → In (node_names y) z → In (reference_names r) z
    reference_then Null y z h g = absurd h
    reference_then (At n) y z h g = node_then n y z h g

    argument_then : (x : Argument) (y z : NodeName) → In (argument_names x) y → In (node_names y) z → In (argument_names x) z
    argument_then (OfTruth b) y z h g = absurd h
    argument_then (OfInt i) y z h g = absurd h
    argument_then (OfText t) y z h g = absurd h
    argument_then (OfNode r) y z h g = reference_then r y z h g

    row_then : (xs : Row) (y z : NodeName) → In (row_names xs) y → In (node_names y) z → In (row_names xs) z
    row_then end_row y z h g = absurd h
    row_then (row x xs) y z h g = elim (in_either (argument_names x) (row_names xs) y h) [
      | inl a ↦ in_left (argument_names x) (row_names xs) z (argument_then x y z a g)
      | inr b ↦ in_right (argument_names x) (row_names xs) z (row_then xs y z b g)
    ]

  -- some nodes that have all arguments of a row, with what stands inside of them
  argument_has : (X : NodeName → Type 0) (x : Argument) → ((n : NodeName) → In (argument_names x) n → X n) → HasArgument X x
  argument_has X (OfTruth b) f = tt
  argument_has X (OfInt z) f = tt
  argument_has X (OfText t) f = tt
  argument_has X (OfNode Null) f = tt
  argument_has X (OfNode (At n)) f = f n (itself n)

  row_has : (X : NodeName → Type 0) (xs : Row) → ((n : NodeName) → In (row_names xs) n → X n) → HasRow X xs
  row_has X end_row f = tt
  row_has X (row x xs) f = (argument_has X x (λ n h. f n (in_left (argument_names x) (row_names xs) n h)), row_has X xs (λ n h. f n (in_right (argument_names x) (row_names xs) n h)))

  -- what stands inside some instances, with the roots of their trees
  abbrev instance_names : List Instance → List NodeName
  instance_names [] = []
  instance_names (i ∷ list) = reference_names (made_by i 0) ++ instance_names list

  instance_then : (list : List Instance) (y z : NodeName) → In (instance_names list) y → In (node_names y) z → In (instance_names list) z
  instance_then [] y z h g = absurd h
  instance_then (i ∷ list) y z h g = elim (in_either (reference_names (made_by i 0)) (instance_names list) y h) [
    | inl a ↦ in_left (reference_names (made_by i 0)) (instance_names list) z (reference_then (made_by i 0) y z a g)
    | inr b ↦ in_right (reference_names (made_by i 0)) (instance_names list) z (instance_then list y z b g)
  ]

  -- and all source nodes
  source_nodes : Finite (λ (n : NodeName). (k : ℕ) × (k < length p.tree) × (n ≡ Source k))
  source_nodes = finite_map Source (finite_below (length p.tree))

  abbrev source_names : List NodeName
  source_names = source_nodes.elements

  pub names_inside : List Instance → List NodeName
  names_inside list = source_names ++ instance_names list

  source_then : (y z : NodeName) → In source_names y → In (node_names y) z → In source_names z
  source_then y z h g =
      let from = source_nodes.sound y h in
      elim (subst (λ (n : NodeName). In (node_names n) z) from.2 g) [
        | inl e ↦ subst (In source_names) (from.2 ∙ sym e) h
        | inr n ↦ absurd n
      ]

  names_then : (list : List Instance) (y z : NodeName) → In (names_inside list) y → In (node_names y) z → In (names_inside list) z
  unfolding names_inside
  names_then list y z h g = elim (in_either source_names (instance_names list) y h) [
    | inl a ↦ in_left source_names (instance_names list) z (source_then y z a g)
    | inr b ↦ in_right source_names (instance_names list) z (instance_then list y z b g)
  ]

  -- these lead to no others
  pub has_inside : (list : List Instance) → HasInside p (In (names_inside list))
  unfolding names_inside
  has_inside list = record {
    source = λ k l. in_left source_names (instance_names list) (Source k) (source_nodes.whole (Source k) (k, l, refl));
    beside = λ {a} {r} {xs} {q} m l h.
        names_then list (Made a r xs q) (Made a r xs m) h (inr (in_left (tree_names a r xs) (reference_names r ++ row_names xs) (Made a r xs m) ((made_nodes a r xs).whole (Made a r xs m) (m, l, refl))));
    owner = λ {a} {n} {xs} {q} h.
        names_then list (Made a (At n) xs q) n h (inr (in_right (tree_names a (At n) xs) (node_names n ++ row_names xs) n (in_left (node_names n) (row_names xs) n (itself n))));
    arguments = λ {a} {r} {xs} {q} h.
        row_has (In (names_inside list)) xs (λ n i. names_then list (Made a r xs q) n h (inr (in_right (tree_names a r xs) (reference_names r ++ row_names xs) n (in_right (reference_names r) (row_names xs) n i))));
  }

  -- the tree of each of the instances is there
  reference_there : (X : NodeName → Type 0) (r : Reference) → ((n : NodeName) → In (reference_names r) n → X n) → HasReference X r
  reference_there X Null f = tt
  reference_there X (At n) f = f n (itself n)

  -- and where there are more of them
  reference_more : (X Y : NodeName → Type 0) (r : Reference) → ((n : NodeName) → X n → Y n) → HasReference X r → HasReference Y r
  reference_more X Y Null f h = tt
  reference_more X Y (At n) f h = f n h

  instance_there : (list : List Instance) (i : Instance) → is_in same_instance list i ≡ true → HasReference (In (instance_names list)) (made_by i 0)
  instance_there [] i m = cc
  instance_there (j ∷ list) i m =
      let own = reference_names (made_by j 0) in
      elim (same_instance i j) as (λ b. same_instance i j ≡ b → (b || is_in same_instance list i) ≡ true → HasReference (In (instance_names (j ∷ list))) (made_by i 0)) [
        | true ↦ λ e g. reference_there (In (instance_names (j ∷ list))) (made_by i 0) (λ n h. in_left own (instance_names list) n (subst (λ (k : Instance). In (reference_names (made_by k 0)) n) (same_instance_is i j e) h))
        | false ↦ λ e g. reference_more (In (instance_names list)) (In (instance_names (j ∷ list))) (made_by i 0) (λ n h. in_right own (instance_names list) n h) (instance_there list i g)
      ] refl m

  pub instance_inside : (list : List Instance) (i : Instance) → is_in same_instance list i ≡ true → HasReference (In (names_inside list)) (made_by i 0)
  unfolding names_inside
  instance_inside list i m = reference_more (In (instance_names list)) (In (names_inside list)) (made_by i 0) (λ n h. in_right source_names (instance_names list) n h) (instance_there list i m)
