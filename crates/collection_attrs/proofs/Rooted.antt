-- The root of a collection is found on the way upwards.
use Rattle.std.proofs.Common.{◌≡◌, ℕ, zero, suc, ◌<◌, ◌≤◌, Bool, true, false, cond, List, Option, Some, None, IfNone, IfSome, length, slice_get, refl, sym, ap, subst, ◌∙◌, inl, inr, arith}
use Rattle.std.specs.List.{find}
use Rattle.std.specs.Option.{option_map}
use Rattle.std.proofs.lemmas.Bool.{cases_lt}
use Rattle.std.proofs.lemmas.Option.{slice_get_past, slice_get_within}
use Rattle.ast_grammar.specs.declared.grammar.ClassId.{ClassId}
use Rattle.ast_grammar.specs.Grammar.{is_sub}
use Rattle.attr_rules.specs.Rules.{root_at}
use Rattle.attr_rules.specs.Types.{is_below}
use Rattle.attr_rules.proofs.RowLists.{there}
use Rattle.tree_arena.specs.Nodes.{Node, class_in, most_nodes, parent_in}
use Rattle.equation_law.specs.declared.coding.Up.{Up}
use Rattle.equation_law.specs.declared.coding.Up.TheVariants.{Inside, Owner}
use Rattle.equation_law.specs.Checked.{HasSourcesAlone}
use Rattle.equation_law.specs.Codes.{ByEachNaming, IsNamingOf, Naming, reference_by, reference_of}
use Rattle.equation_law.specs.Collections.{Collection}
use Rattle.equation_law.specs.Created.{Making, tree_or_none}
use Rattle.equation_law.specs.Equations.{collection_root, followed, is_of_class, offers_below, root_for, root_over, unless_found, upwards_from, where_made}
use Rattle.equation_law.specs.Names.{At, Made, NodeName, Null, Reference, Row, Source}
use Rattle.equation_law.specs.Program.{Program, class_at, class_of, tree_made}
use Rattle.equation_law.specs.Reading.{IsHigher, class_behind, code_above, higher_than, parent_or_maker}
use Rattle.equation_law.proofs.Above.{Falls, upwards_end, upwards_step}
use Rattle.equation_law.proofs.Codes.{IsPast, past_tree}
use Rattle.equation_law.proofs.Created.{made_falls}
use Rattle.equation_law.proofs.Lists.{some_of}
use Rattle.equation_law.proofs.Tied.{never_makes}
use Rattle.inherited_walk.proofs.Classes.{IsMadeNode, made_behind, past_class}
use Rattle.collection_attrs.specs.declared.collectors.Collector.{Collector}
use Rattle.collection_attrs.specs.Roots.{IsRootOf, IsRootless}
use Rattle.collection_attrs.specs.Surveys.{ForCollector, IsCollectorBy}
use Rattle.collection_attrs.proofs.Found.{offers_are}

-- the first of a node and its ancestors at which something holds
module _ (f : ℕ → Bool) (tree : List Node) where
  first_up : (most n : ℕ) → f n ≡ true → find f (upwards_from most tree n) ≡ Some n
  first_up zero n e = ap (λ (b : Bool). cond b (Some n) None) e
  first_up (suc most) n e = ap (λ (b : Bool). cond b (Some n) (find f (followed (parent_in tree n) (upwards_from most tree)))) e

  next_up : Falls tree → (n u : ℕ) → f n ≡ false → parent_in tree n ≡ Some u → find f (upwards_from n tree n) ≡ find f (upwards_from u tree u)
  next_up falls n u off up = ap (find f) (upwards_step tree falls n u up) ∙ ap (λ (b : Bool). cond b (Some n) (find f (upwards_from u tree u))) off

  none_up : Falls tree → (n : ℕ) → f n ≡ false → parent_in tree n ≡ None → find f (upwards_from n tree n) ≡ None
  none_up falls n off top = ap (find f) (upwards_end tree falls n top) ∙ ap (λ (b : Bool). cond b (Some n) None) off

module _ (p : Program) (c : ClassId) where
  abbrev Is : ℕ → Bool
  Is n = is_of_class p c (Source n)

  -- a node is of the class where its class is it or below
  pub of_class : (n : ℕ) (d : ClassId) → class_in p.tree n ≡ Some d → is_of_class p c (Source n) ≡ is_sub p.grammar d.0 c.0
  of_class n d e = ap (λ (o : Option ClassId). is_below p.grammar o c) e

  -- it is the node, where that is of the class
  pub root_here : (n : ℕ) → is_of_class p c (Source n) ≡ true → collection_root p (Some c) n ≡ Some n
  root_here n e = first_up Is p.tree n n e

  -- else it is that of the parent
  pub root_above : (n u : ℕ) → Falls p.tree → is_of_class p c (Source n) ≡ false → parent_in p.tree n ≡ Some u → collection_root p (Some c) n ≡ collection_root p (Some c) u
  root_above n u falls off up = next_up Is p.tree falls n u off up

  pub root_nowhere : (n : ℕ) → Falls p.tree → is_of_class p c (Source n) ≡ false → parent_in p.tree n ≡ None → collection_root p (Some c) n ≡ None
  root_nowhere n falls off top = none_up Is p.tree falls n off top

  -- a number past the last node has none
  top_past : (n : ℕ) → 0 < length p.tree → length p.tree ≤ n → parent_in p.tree n ≡ None
  top_past zero some past = absurd (omega (arith, some, past))
  top_past (suc n) some past = ap (λ (o : Option Node). option_map (λ x. x.parent) o) (slice_get_past p.tree (suc n) past)

  pub root_past : (n : ℕ) → Falls p.tree → 0 < length p.tree → length p.tree ≤ n → collection_root p (Some c) n ≡ None
  root_past n falls some past = root_nowhere n falls (ap (λ (o : Option Node). is_below p.grammar (option_map (λ x. x.class) o) c) (slice_get_past p.tree n past)) (top_past n some past)

  -- so has what has no class
  source_classless : (n : ℕ) → Falls p.tree → 0 < length p.tree → class_of p n ≡ None → collection_root p (Some c) n ≡ None
  source_classless n falls some none = elim (cases_lt n (length p.tree)) [
    | inl within ↦ absurd (let x = there p.tree n within in let is : class_of p n ≡ Some x.0.class = ap (option_map (λ (y : Node). y.class)) x.1 in cc)
    | inr past ↦ root_past n falls some past
  ]

  pub root_classless : Falls p.tree → 0 < length p.tree → (r : Reference) → class_behind p r ≡ None → root_over p (Some c) r ≡ None
  root_classless falls some Null none = refl
  root_classless falls some (At (Source k)) none = source_classless k falls some none
  root_classless falls some (At (Made b r xs q)) none =
      ap (λ (o : Option ClassId). where_made o (unless_found (find (λ n. is_of_class p c (Made b r xs n)) (upwards_from q (tree_made p b r) q)) (root_over p (Some c) r)) None) none

  -- ---- a node of a tree that was made

  module _ (b : ℕ) (r : Reference) (xs : Row) (q : ℕ) (d : ClassId) (of : class_at p (Made b r xs q) ≡ Some d) where
    abbrev made_tree : List Node
    made_tree = tree_made p b r

    abbrev IsIn : ℕ → Bool
    IsIn n = is_of_class p c (Made b r xs n)

    abbrev found_from : ℕ → Option ℕ
    found_from n = find IsIn (upwards_from n made_tree n)

    abbrev over : Option ℕ
    over = root_over p (Some c) r

    from_tree : (u : ℕ) (e : ClassId) → class_at p (Made b r xs u) ≡ Some e → root_for p (Some c) (Made b r xs u) ≡ unless_found (found_from u) over
    from_tree u e is = ap (λ (o : Option ClassId). where_made o (unless_found (found_from u) over) None) is

    -- its parent is a node
    parent_class : (u : ℕ) → parent_in made_tree q ≡ Some u → (e : ClassId) × (class_at p (Made b r xs u) ≡ Some e)
    parent_class u up =
        let x = some_of (λ (y : Node). y.class) (slice_get made_tree q) d of in
        let inside = slice_get_within made_tree q x.0 x.1 in
        let smaller = made_falls p b r q u up in
        let y = there made_tree u (omega (arith, inside, smaller)) in
        (y.0.class, ap (option_map (λ (z : Node). z.class)) y.1)

    made_here : IsIn q ≡ true → root_for p (Some c) (Made b r xs q) ≡ None
    made_here on = from_tree q d of ∙ ap (λ (o : Option ℕ). unless_found o over) (first_up IsIn made_tree q q on)

    made_inside : IsIn q ≡ false → (u : ℕ) → parent_in made_tree q ≡ Some u → root_for p (Some c) (Made b r xs q) ≡ root_for p (Some c) (Made b r xs u)
    made_inside off u up =
        let e = parent_class u up in
        from_tree q d of ∙ ap (λ (o : Option ℕ). unless_found o over) (next_up IsIn made_tree (made_falls p b r) q u off up) ∙ sym (from_tree u e.0 e.1)

    made_owner : IsIn q ≡ false → parent_in made_tree q ≡ None → root_for p (Some c) (Made b r xs q) ≡ root_over p (Some c) r
    made_owner off top = from_tree q d of ∙ ap (λ (o : Option ℕ). unless_found o over) (none_up IsIn made_tree (made_falls p b r) q off top)

    made_of_class : IsIn q ≡ is_sub p.grammar d.0 c.0
    made_of_class = ap (λ (o : Option ClassId). is_below p.grammar o c) of

  -- by a code past those of all source nodes
  module _ (few : length p.tree ≤ most_nodes) {names : Naming} (named : IsNamingOf p names) (m : ℕ) (far : most_nodes < m) (d : ClassId) (of : class_behind p (reference_by names.node m) ≡ Some d) where
    abbrev here : Reference
    here = reference_by names.node m

    made : IsMadeNode p here
    made = made_behind p few named m far d of

    class_is : class_at p (Made made.maker made.owner made.arguments made.place) ≡ Some d
    class_is = sym (ap (class_behind p) made.is) ∙ of

    -- where the root stands in a tree that was made, there is none
    pub root_made : is_sub p.grammar d.0 c.0 ≡ true → root_over p (Some c) here ≡ None
    root_made on =
        let is_in = made_of_class made.maker made.owner made.arguments made.place d class_is in
        ap (root_over p (Some c)) made.is ∙ made_here made.maker made.owner made.arguments made.place d class_is (is_in ∙ on)

    -- else it is that of what stands above
    pub root_higher : is_sub p.grammar d.0 c.0 ≡ false → (up : Up) → IsHigher names up (higher_than p here) → root_over p (Some c) here ≡ root_over p (Some c) (reference_by names.node (code_above up))
    root_higher off up high =
        let stands : IsHigher names up (higher_than p (At (Made made.maker made.owner made.arguments made.place))) = subst (λ (x : Reference). IsHigher names up (higher_than p x)) made.is high in
        ap (root_over p (Some c)) made.is ∙ above up (parent_in (tree_made p made.maker made.owner) made.place) refl stands
      where
        is_off : is_of_class p c (Made made.maker made.owner made.arguments made.place) ≡ false
        is_off = made_of_class made.maker made.owner made.arguments made.place d class_is ∙ off

        above : (up : Up) (u : Option ℕ) → parent_in (tree_made p made.maker made.owner) made.place ≡ u
            → IsHigher names up (parent_or_maker (Made made.maker made.owner made.arguments) made.owner made.maker (tree_made p made.maker made.owner) made.place u)
            → root_for p (Some c) (Made made.maker made.owner made.arguments made.place) ≡ root_over p (Some c) (reference_by names.node (code_above up))
        above (Inside x k) (Some u) e high = made_inside made.maker made.owner made.arguments made.place d class_is is_off u e ∙ ap (root_over p (Some c)) (sym high.0)
        above (Inside x k) None e high = absurd high
        above (Owner x a) (Some u) e high = absurd high
        above (Owner x a) None e high = made_owner made.maker made.owner made.arguments made.place d class_is is_off e ∙ ap (root_over p (Some c)) (sym high.0)

  -- within the tree it is that of the source node
  pub root_within : length p.tree ≤ most_nodes → {names : Naming} → IsNamingOf p names → (n m : ℕ) → n < length p.tree → At (Source n) ≡ reference_of m → root_over p (Some c) (reference_by names.node m) ≡ collection_root p (Some c) n
  root_within few named n zero within e = cc
  root_within few named n (suc k) within e =
      let same : k ≡ n = cc in
      ap (root_for p (Some c)) (named.sources k (omega (arith, same, within, few))) ∙ ap (collection_root p (Some c)) same

  -- past the tree there is none where nothing is made
  module _ (bare : HasSourcesAlone p) {names : Naming} (named : IsNamingOf p names) where
    past_classless : (x : NodeName) → IsPast p x → class_at p x ≡ None
    past_classless (Source j) past = past_class p j past
    past_classless (Made a r xs q) past = ap (λ (o : Option Making). class_in (tree_or_none o) q) (never_makes p bare a r)

    pub root_past_tree : Falls p.tree → 0 < length p.tree → (n m : ℕ) → length p.tree ≤ n → At (Source n) ≡ reference_of m → root_over p (Some c) (reference_by names.node m) ≡ None
    root_past_tree falls some n zero past e = cc
    root_past_tree falls some n (suc k) past e =
        let same : k ≡ n = cc in
        root_classless falls some (At (names.node k)) (past_classless (names.node k) (past_tree named bare.few k (omega (arith, same, past))))

-- every node has the root of the tree without a root class
pub root_first : (p : Program) (m : NodeName) → root_for p None m ≡ Some 0
root_first p (Source k) = refl
root_first p (Made b r xs q) = refl

-- what is offered in the subtree of a root, or nothing without one
module _ (p : Program) (of : Collector) where
  pub offers_from : {names : Naming} {c : Collection} {o : Option ClassId} {r : Option ℕ} → root_at p.rules of.attr.0 ≡ o → root_over p o (reference_by names.node of.node.0) ≡ r → IsCollectorBy p names of c → c.offers ≡ offers_below p of.attr.0 r
  offers_from {names} root is by = offers_are p by ∙ ap (λ (o : Option ClassId). offers_below p of.attr.0 (root_over p o (reference_by names.node of.node.0))) root ∙ ap (offers_below p of.attr.0) is

  pub some_root : (o : Option ℕ) → ForCollector p of (λ c. ByEachNaming p (λ names. (c names).offers ≡ offers_below p of.attr.0 o)) → IfSome o (IsRootOf p of)
  some_root None h = tt
  some_root (Some r) h = h

  pub none_root : (o : Option ℕ) → ForCollector p of (λ c. ByEachNaming p (λ names. (c names).offers ≡ offers_below p of.attr.0 o)) → IfNone o (IsRootless p of)
  none_root None h = h
  none_root (Some r) h = tt
