-- The way upwards from nodes that were made, and the equations that are found on it.
use Rattle.std.proofs.Common.{◌≡◌, ◌⊎◌, inl, inr, ℕ, ◌<◌, ◌≤◌, true, false, cond, List, [], map, Option, Some, None, IfSome, IsSome, is_some, length, slice_get, refl, sym, ap, subst, ◌∙◌, arith}
use Rattle.std.specs.Option.{option_and_then, option_map, option_or}
use Rattle.std.proofs.lemmas.Option.{slice_get_within}
use Rattle.ast_grammar.specs.declared.grammar.ClassId.{ClassId}
use Rattle.attr_rules.specs.declared.dispatch.Reach.{Reach}
use Rattle.attr_rules.specs.declared.dispatch.Reach.TheVariants.{Children}
use Rattle.attr_rules.specs.declared.dispatch.Via.{Via}
use Rattle.attr_rules.specs.declared.dispatch.Via.TheVariants.{Created as ByCreated}
use Rattle.attr_rules.specs.declared.kinds.AttrId.{AttrId}
use Rattle.attr_rules.specs.Rules.{Equation, by_component, by_created, covering_number, reach_via}
use Rattle.attr_rules.proofs.RowLists.{there}
use Rattle.tree_arena.specs.Nodes.{Node as TreeNode, component_in, most_nodes, parent_in}
use Rattle.equation_law.specs.declared.coding.Args.{Args}
use Rattle.equation_law.specs.declared.coding.EqSite.{EqSite}
use Rattle.equation_law.specs.declared.coding.NodeRef.{NodeRef}
use Rattle.equation_law.specs.declared.coding.Up.{Up}
use Rattle.equation_law.specs.declared.coding.Up.TheVariants.{Inside, Owner}
use Rattle.equation_law.specs.Codes.{IsNamingOf, IsRow, Naming, arguments_for, codes_in, reference_by}
use Rattle.equation_law.specs.Equations.{Site, bound_values, covering_by, covering_site, inherited_over, inherited_site, inherits, number_or_zero, site_above, site_at_owner, site_of, site_within, synthesized_site, where_made}
use Rattle.equation_law.specs.Names.{Argument, At, Attribute, Made, NodeName, Null, Reference, Row, list_of, made_by}
use Rattle.equation_law.specs.Program.{Program, attribute_parameters, class_at, declared_of, tree_made}
use Rattle.equation_law.specs.Reading.{AreKnownCodes, Grows, IsHigher, IsSound, Told, UpBy, class_behind, code_above, higher_than, parent_or_maker}
use Rattle.equation_law.specs.Values.{Value, argument_value}
use Rattle.equation_law.proofs.Above.{covers, there_is, through, within_end, within_step}
use Rattle.equation_law.proofs.Created.{made_falls}
use Rattle.equation_law.proofs.Lists.{some_of}
use Rattle.equation_law.proofs.Grown.{grows_on}
use Rattle.inherited_walk.specs.Climbing.{BindsBy, CoversBy, IsClassAt, IsHigherBy, inherited_at, is_over_attribute}
use Rattle.inherited_walk.specs.Sites.{IsFound, IsSite, KnowsBound, KnowsSite, outer_values, reach_or_own}
use Rattle.inherited_walk.proofs.Classes.{IsMadeNode, made_behind}
use Rattle.inherited_walk.proofs.Walking.{classless, covered_by, site_read}

-- a reference without a class inherits nothing
pub none_inherited : (p : Program) (a : ℕ) (zs : List Argument) (root r : Reference) → class_behind p r ≡ None → inherited_at p a zs root r ≡ None
none_inherited p a zs root Null e = refl
none_inherited p a zs root (At m) e = classless p a zs root m e

-- the equation of an inherited attribute, and that of another at a node
pub inherits_site : (p : Program) (a : ℕ) (zs : List Argument) (r : Reference) → true ≡ inherits (declared_of p a) → site_of p (Attribute a r zs) ≡ inherited_at p a zs (made_by (Attribute a r zs) 0) r
inherits_site p a zs Null e = refl
inherits_site p a zs (At m) e = ap (λ b. cond b (inherited_site p a zs (made_by (Attribute a (At m) zs) 0) m) (synthesized_site p a m zs)) (sym e)

pub own_site : (p : Program) (a : ℕ) (zs : List Argument) (m : NodeName) → false ≡ inherits (declared_of p a) → site_of p (Attribute a (At m) zs) ≡ synthesized_site p a m zs
own_site p a zs m e = ap (λ b. cond b (inherited_site p a zs (made_by (Attribute a (At m) zs) 0) m) (synthesized_site p a m zs)) (sym e)

-- what has a class is a node
pub node_there : (p : Program) (r : Reference) (c : ClassId) → class_behind p r ≡ Some c → (m : NodeName) × (r ≡ At m) × (Some c ≡ class_at p m)
node_there p Null c e = cc
node_there p (At m) c e = (m, refl, sym e)

-- one of three
or_again : {A : Type 0} (x y z : Option A) → option_or (option_or x y) z ≡ option_or x (option_or y z)
or_again None y z = refl
or_again (Some x) y z = refl

-- what covers something is for just that, or for every child
reach_of : (p : Program) (a : ℕ) (v : Via) (c : ClassId) (q : Equation) → covering_by p a v c ≡ Some q → (q.target.reach ≡ reach_via v) ⊎ (q.target.reach ≡ Children)
reach_of p a v c q e =
    let number = through (slice_get p.rules.equations) (covering_number p.rules c v a) q e in
    let found = covers p.rules a c v number.0 number.1 in
    let same : found.equation ≡ q = let one = found.is in let other = number.2 in cc in
    subst (λ (x : Equation). (x.target.reach ≡ reach_via v) ⊎ (x.target.reach ≡ Children)) same found.reach

-- what a class, if there is one, has for what hangs at it
abbrev pub CoversOf : {S : Type 0} → Program → Told S → Told S → AttrId → Args → Via → NodeRef → NodeRef → Option ClassId → Option EqSite → Type 0
CoversOf p r s a xs via above m None site = site ≡ None
CoversOf p r s a xs via above m (Some c) site = CoversBy p r s a xs c via above m site

-- where the node above one that was made stands
module _ (p : Program) (a : ℕ) (zs : List Argument) (root : Reference) (b : ℕ) (r : Reference) (ys : Row) (q : ℕ) (d : ClassId) (of : class_at p (Made b r ys q) ≡ Some d) where
  abbrev made_tree : List TreeNode
  made_tree = tree_made p b r

  abbrev over : Option Site
  over = inherited_over p a zs root b ys r

  from_tree : (u : ℕ) (c : ClassId) → class_at p (Made b r ys u) ≡ Some c → inherited_site p a zs root (Made b r ys u) ≡ option_or (site_within p made_tree (Made b r ys) a zs root u) over
  from_tree u c e = ap (λ (o : Option ClassId). where_made o (option_or (site_within p made_tree (Made b r ys) a zs root u) over) None) e

  -- the component at which it hangs
  pub hangs_there : (k : ℕ) × (component_in made_tree q ≡ Some k)
  hangs_there = let x = some_of (λ (y : TreeNode). y.class) (slice_get made_tree q) d of in (x.0.component, ap (option_map (λ (y : TreeNode). y.component)) x.1)

  -- its parent is a node
  parent_class : (u : ℕ) → parent_in made_tree q ≡ Some u → (c : ClassId) × (class_at p (Made b r ys u) ≡ Some c)
  parent_class u up =
      let x = some_of (λ (y : TreeNode). y.class) (slice_get made_tree q) d of in
      let inside = slice_get_within made_tree q x.0 x.1 in
      let smaller = made_falls p b r q u up in
      let y = there made_tree u (omega (arith, inside, smaller)) in
      (y.0.class, ap (option_map (λ (z : TreeNode). z.class)) y.1)

  pub inside_step : (u : ℕ) → parent_in made_tree q ≡ Some u → inherited_site p a zs root (Made b r ys q) ≡ option_or (covering_site p made_tree (Made b r ys) a zs root q) (inherited_site p a zs root (Made b r ys u))
  inside_step u up =
      let c = parent_class u up in
      let here = covering_site p made_tree (Made b r ys) a zs root q in
      let higher = site_within p made_tree (Made b r ys) a zs root u in
      from_tree q d of ∙ ap (λ (o : Option Site). option_or o over) (within_step p made_tree (Made b r ys) a zs root (made_falls p b r) q u up) ∙ or_again here higher over ∙ ap (option_or here) (sym (from_tree u c.0 c.1))

  pub owner_step : parent_in made_tree q ≡ None → inherited_site p a zs root (Made b r ys q) ≡ inherited_over p a zs root b ys r
  owner_step top = from_tree q d of ∙ ap (λ (o : Option Site). option_or o over) (within_end p made_tree (Made b r ys) a zs root (made_falls p b r) q top)

-- what stands above, and by what a node hangs there
abbrev pub node_of : Up → NodeRef
node_of (Inside above k) = above
node_of (Owner above b) = above

abbrev pub via_of : Up → Via
via_of (Inside above k) = by_component k
via_of (Owner above b) = ByCreated b

code_is : (up : Up) → code_above up ≡ (node_of up).0
code_is (Inside above k) = refl
code_is (Owner above b) = refl

module _ {S : Type 0} (p : Program) (r s : Told S) (a : AttrId) (xs : Args) (m : NodeRef) (n : Naming) (is : s.names n) where
  abbrev given : List Argument
  given = arguments_for p n a.0 xs

  -- an equation of a class that covers what hangs by something, where what it binds is known
  found_of : (via : Via) (above : NodeRef) (o : Option ClassId) (site : Option EqSite) (top : NodeName) (vs : List Value) (root : Reference) → reference_by n.node above.0 ≡ At top
      → ((w : Reach) → (w ≡ reach_via via) ⊎ (w ≡ Children) → (outer : Args) → BindsBy p r s w m outer → outer_values p n w outer ≡ bound_values w 0 vs) → CoversOf p r s a xs via above m o site
      → IsFound p n a.0 (option_map (λ (q : Equation). site_above p a.0 given root top (bound_values q.target.reach 0 vs) q) (option_and_then (covering_by p a.0 via) o)) site
  found_of via above None site top vs root at binds none = subst (λ (x : Option EqSite). IsFound p n a.0 None x) (sym none) refl
  found_of via above (Some c) None top vs root at binds covered = ap (option_map (λ (q : Equation). site_above p a.0 given root top (bound_values q.target.reach 0 vs) q)) (covered.none refl)
  found_of via above (Some c) (Some e) top vs root at binds covered =
      let f : Equation → Site = λ q. site_above p a.0 given root top (bound_values q.target.reach 0 vs) q in
      let found = covered.some e refl in
      let q = found.0 in
      let outer = binds q.target.reach (reach_of p a.0 via c q found.1) e.outer found.5 in
      let read = site_read p n a.0 e.inner root top e.equation.0 e.node.0 e.outer (bound_values q.target.reach 0 vs) q found.2 (ap (λ (x : NodeRef). reference_by n.node x.0) found.3 ∙ at) outer in
      (f q, ap (option_map f) found.1, subst (λ (x : Args). IsSite p n a.0 e (site_above p a.0 (arguments_for p n a.0 x) root top (bound_values q.target.reach 0 vs) q)) found.4 read)

  -- of such an equation the reader knows where it is read, where it knows what its path binds
  site_known : (via : Via) (above : NodeRef) (o : Option ClassId) (site : Option EqSite) → s.knows above.0 → AreKnownCodes s (attribute_parameters p a.0) (codes_in xs)
      → ((w : Reach) → (w ≡ reach_via via) ⊎ (w ≡ Children) → (outer : Args) → BindsBy p r s w m outer → KnowsBound p s w outer) → CoversOf p r s a xs via above m o site → IfSome site (KnowsSite p s a.0)
  site_known via above None site known codes binds none = subst (λ (x : Option EqSite). IfSome x (KnowsSite p s a.0)) (sym none) tt
  site_known via above (Some c) None known codes binds covered = tt
  site_known via above (Some c) (Some e) known codes binds covered =
      let found = covered.some e refl in
      let q = found.0 in
      record {
        node = subst (λ (x : NodeRef). s.knows x.0) (sym found.3) known;
        inner = subst (λ (x : Args). AreKnownCodes s (attribute_parameters p a.0) (codes_in x)) (sym found.4) codes;
        outer = subst (λ (w : Reach). KnowsBound p s w e.outer) (sym (ap reach_or_own found.2)) (binds q.target.reach (reach_of p a.0 via c q found.1) e.outer found.5);
      }

  -- it knows what the path over an attribute binds
  bound_known : (up : Up) (b : ℕ) (o : Reference) (ys : Row) (q : ℕ) → reference_by n.node m.0 ≡ At (Made b o ys q) → IsSome (class_at p (Made b o ys q)) → (u : Option ℕ) → IsHigher n up (parent_or_maker (Made b o ys) o b (tree_made p b o) q u)
      → (w : Reach) → (w ≡ reach_via (via_of up)) ⊎ (w ≡ Children) → (outer : Args) → BindsBy p r s w m outer → KnowsBound p s w outer
  bound_known (Inside above k) b o ys q at there u high w h outer binds = elim h [
    | inl e ↦ subst (λ (x : Reach). KnowsBound p s x outer) (sym e) tt
    | inr e ↦ subst (λ (x : Reach). KnowsBound p s x outer) (sym e) tt
  ]
  bound_known (Owner above maker) b o ys q at there (Some u) high w h outer binds = absurd high
  bound_known (Owner above maker) b o ys q at there None high w h outer binds = elim h [
    | inl e ↦ binds.known n is (record { 0 = b }) o ys q (e ∙ ap (λ (k : ℕ). reach_via (by_created k)) high.1) at there
    | inr e ↦ subst (λ (x : Reach). KnowsBound p s x outer) (sym e) tt
  ]

  -- what is found for a node that was made, by where the node above it is
  abbrev Higher : Reference → Reference → Option EqSite → Type 0
  Higher x top site = (zs : List Argument) (root : Reference) → (o : Option Site) × (inherited_at p a.0 zs root x ≡ option_or o (inherited_at p a.0 zs root top)) × (zs ≡ given → IsFound p n a.0 o site)

  -- over a component nothing is bound but the place
  inside_binds : (k : ℕ) (w : Reach) → (w ≡ reach_via (by_component k)) ⊎ (w ≡ Children) → (outer : Args) → BindsBy p r s w m outer → outer_values p n w outer ≡ bound_values w 0 []
  inside_binds k w h outer binds = binds.inside n is (elim h [
    | inl e ↦ ap is_over_attribute e
    | inr e ↦ ap is_over_attribute e
  ])

  module _ (b : ℕ) (o : Reference) (ys : Row) (q : ℕ) (at : reference_by n.node m.0 ≡ At (Made b o ys q)) (d : ClassId) (of : class_at p (Made b o ys q) ≡ Some d) where
    -- over an attribute its arguments are
    owner_binds : (w : Reach) → (w ≡ reach_via (by_created b)) ⊎ (w ≡ Children) → (outer : Args) → BindsBy p r s w m outer → outer_values p n w outer ≡ bound_values w 0 (map argument_value (list_of ys))
    owner_binds w h outer binds = elim h [
      | inl e ↦
          let are = binds.arguments n is (record { 0 = b }) o ys q e at (subst (λ (x : Option ClassId). IsSome x) (sym of) refl) in
          are ∙ ap (λ (x : Reach). bound_values x 0 (map argument_value (list_of ys))) (sym e)
      | inr e ↦ binds.inside n is (ap is_over_attribute e) ∙ ap (λ (x : Reach). bound_values x 0 []) e ∙ ap (λ (x : Reach). bound_values x 0 (map argument_value (list_of ys))) (sym e)
    ]

    -- below its parent
    higher_inside : (u : ℕ) (above : NodeRef) (k : ℕ) (c : Option ClassId) (site : Option EqSite) → parent_in (tree_made p b o) q ≡ Some u → reference_by n.node above.0 ≡ At (Made b o ys u) → k ≡ number_or_zero (component_in (tree_made p b o) q)
        → c ≡ class_behind p (reference_by n.node above.0) → CoversOf p r s a xs (by_component k) above m c site → Higher (At (Made b o ys q)) (reference_by n.node above.0) site
    higher_inside u above k c site up stands component class covered zs root =
        let tree = tree_made p b o in
        let name : ℕ → NodeName = Made b o ys in
        let hung = hangs_there p a.0 zs root b o ys q d of in
        let same : k ≡ hung.0 = component ∙ ap number_or_zero hung.1 in
        let parent : class_at p (name u) ≡ c = sym (class ∙ ap (class_behind p) stands) in
        let at_component : component_in tree q ≡ Some k = hung.1 ∙ ap Some (sym same) in
        let found = found_of (by_component k) above c site (name u) [] root stands (inside_binds k) covered in (
          covering_site p tree name a.0 zs root q,
          inside_step p a.0 zs root b o ys q d of u up ∙ ap (λ (x : Reference). option_or (covering_site p tree name a.0 zs root q) (inherited_at p a.0 zs root x)) (sym stands),
          λ is_given.
              subst (λ (x : List Argument). IsFound p n a.0 (covering_site p tree name a.0 x root q) site) (sym is_given)
              (subst (λ (x : Option Site). IsFound p n a.0 x site) (sym (covered_by p tree name a.0 given root q u k up at_component parent)) found),
        )

    -- and below the owner of its tree
    higher_owner : (above : NodeRef) (maker : AttrId) (c : Option ClassId) (site : Option EqSite) → parent_in (tree_made p b o) q ≡ None → reference_by n.node above.0 ≡ o → maker.0 ≡ b
        → c ≡ class_behind p (reference_by n.node above.0) → CoversOf p r s a xs (ByCreated maker) above m c site → Higher (At (Made b o ys q)) (reference_by n.node above.0) site
    higher_owner above maker c site top stands made class covered zs root = by_owner o stands (owner_step p a.0 zs root b o ys q d of top) owner_binds
      where
        by_owner : (x : Reference) → reference_by n.node above.0 ≡ x → inherited_site p a.0 zs root (Made b o ys q) ≡ inherited_over p a.0 zs root b ys x
            → ((w : Reach) → (w ≡ reach_via (by_created b)) ⊎ (w ≡ Children) → (outer : Args) → BindsBy p r s w m outer → outer_values p n w outer ≡ bound_values w 0 (map argument_value (list_of ys)))
            → (t : Option Site) × (inherited_site p a.0 zs root (Made b o ys q) ≡ option_or t (inherited_at p a.0 zs root (reference_by n.node above.0))) × (zs ≡ given → IsFound p n a.0 t site)
        by_owner Null e step binds =
            let bare : c ≡ None = class ∙ ap (class_behind p) e in
            let none : CoversOf p r s a xs (ByCreated maker) above m None site = subst (λ (x : Option ClassId). CoversOf p r s a xs (ByCreated maker) above m x site) bare covered in
            (None, step ∙ ap (inherited_at p a.0 zs root) (sym e), λ is_given. subst (λ (x : Option EqSite). IsFound p n a.0 None x) (sym none) refl)
        by_owner (At x) e step binds =
            let made_via : CoversOf p r s a xs (by_created b) above m c site = subst (λ (k : ℕ). CoversOf p r s a xs (by_created k) above m c site) made covered in
            let classes : class_at p x ≡ c = sym (class ∙ ap (class_behind p) e) in
            let found = found_of (by_created b) above c site x (map argument_value (list_of ys)) root e binds made_via in
            let here : IsFound p n a.0 (site_at_owner p a.0 given root b ys x) site =
            subst (λ (y : Option ClassId). IsFound p n a.0 (option_map (λ (z : Equation). site_above p a.0 given root x (bound_values z.target.reach 0 (map argument_value (list_of ys))) z) (option_and_then (covering_by p a.0 (by_created b)) y)) site) (sym classes) found
            in (
              site_at_owner p a.0 zs root b ys x,
              step ∙ ap (λ (y : Reference). option_or (site_at_owner p a.0 zs root b ys x) (inherited_at p a.0 zs root y)) (sym e),
              λ is_given. subst (λ (y : List Argument). IsFound p n a.0 (site_at_owner p a.0 y root b ys x) site) (sym is_given) here,
            )

  abbrev HigherBy : Up → Reference → Option EqSite → Type 0
  HigherBy up x site = Higher x (reference_by n.node (node_of up).0) site

  higher_by : (up : Up) (c : Option ClassId) (site : Option EqSite) (b : ℕ) (o : Reference) (ys : Row) (q : ℕ) → reference_by n.node m.0 ≡ At (Made b o ys q) → (d : ClassId) → class_at p (Made b o ys q) ≡ Some d → (u : Option ℕ) → parent_in (tree_made p b o) q ≡ u
      → IsHigher n up (parent_or_maker (Made b o ys) o b (tree_made p b o) q u) → c ≡ class_behind p (reference_by n.node (node_of up).0) → CoversOf p r s a xs (via_of up) (node_of up) m c site → HigherBy up (At (Made b o ys q)) site
  higher_by (Inside above k) c site b o ys q at d of (Some u) up high class covered = higher_inside b o ys q at d of u above k c site up high.0 high.1 class covered
  higher_by (Inside above k) c site b o ys q at d of None up high class covered = absurd high
  higher_by (Owner above maker) c site b o ys q at d of (Some u) up high class covered = absurd high
  higher_by (Owner above maker) c site b o ys q at d of None up high class covered = higher_owner b o ys q at d of above maker c site up high.0 high.1 class covered

  behind : length p.tree ≤ most_nodes → IsNamingOf p n → most_nodes < m.0 → IsSome (class_behind p (reference_by n.node m.0)) → IsMadeNode p (reference_by n.node m.0)
  behind few named far h = let d = there_is (class_behind p (reference_by n.node m.0)) h in made_behind p few named m.0 far d.0 d.1

  higher_found : length p.tree ≤ most_nodes → IsNamingOf p n → most_nodes < m.0 → (up : Up) (c : Option ClassId) (site : Option EqSite) → (IsSome (class_behind p (reference_by n.node m.0)) → IsHigher n up (higher_than p (reference_by n.node m.0)))
      → c ≡ class_behind p (reference_by n.node (node_of up).0) → CoversOf p r s a xs (via_of up) (node_of up) m c site → IsSome (class_behind p (reference_by n.node m.0)) → HigherBy up (reference_by n.node m.0) site
  higher_found few named far up c site high class covered some =
      let made = behind few named far some in
      let stands : IsHigher n up (higher_than p (At (Made made.maker made.owner made.arguments made.place))) = subst (λ (x : Reference). IsHigher n up (higher_than p x)) made.is (high some) in
      let found = higher_by up c site made.maker made.owner made.arguments made.place made.is made.class made.of (parent_in (tree_made p made.maker made.owner) made.place) refl stands class covered in
      subst (λ (x : Reference). HigherBy up x site) (sym made.is) found

  higher_known : length p.tree ≤ most_nodes → IsNamingOf p n → most_nodes < m.0 → (up : Up) (c : Option ClassId) (site : Option EqSite) → IsHigher n up (higher_than p (reference_by n.node m.0)) → CoversOf p r s a xs (via_of up) (node_of up) m c site
      → IsSome (class_behind p (reference_by n.node m.0)) → s.knows (node_of up).0 → AreKnownCodes s (attribute_parameters p a.0) (codes_in xs) → IfSome site (KnowsSite p s a.0)
  higher_known few named far up c site high covered some known codes =
      let made = behind few named far some in
      let stands : IsHigher n up (higher_than p (At (Made made.maker made.owner made.arguments made.place))) = subst (λ (x : Reference). IsHigher n up (higher_than p x)) made.is high in
      let there : IsSome (class_at p (Made made.maker made.owner made.arguments made.place)) = subst (λ (x : Option ClassId). IsSome x) (sym made.of) refl in
      site_known (via_of up) (node_of up) c site known codes (bound_known up made.maker made.owner made.arguments made.place made.is there (parent_in (tree_made p made.maker made.owner) made.place) stands) covered

-- what is found for a node that was made, by the node above it
module _ {S : Type 0} (p : Program) {r b t s : Told S} (sound : IsSound p r) (few : length p.tree ≤ most_nodes) (a : AttrId) (xs : Args) (m : NodeRef) (far : most_nodes < m.0) (knows : r.knows m.0) (up : Up) (stands : UpBy r b m up) (site : Option EqSite) (grown : Grows p t s) (class : Option ClassId) where
  above_known : IsClassAt p b t (node_of up) class → s.knows (node_of up).0
  above_known classed = grown.known (node_of up).0 (classed.kept.known (node_of up).0 (subst b.knows (code_is up) (stands.known p sound far knows)))

  higher_here : IsClassAt p b t (node_of up) class → CoversOf p t s a xs (via_of up) (node_of up) m class site → IsHigherBy p r s a m xs (record { node = node_of up; site = site })
  higher_here classed covered = record {
    kept = grows_on (stands.kept p sound) (grows_on classed.kept grown);
    falls =
        let first = stands.falls p sound far in
        let second = classed.kept.heights (node_of up).0 in
        let third = grown.heights (node_of up).0 in
        let same = ap b.height (code_is up) in
        omega (arith, first, second, third, same);
    found = λ n is some zs root.
        let before = grown.names n is in
        higher_found p t s a xs m n is few (grown.sound.named n is) far up class site (stands.answer p sound far knows n (classed.kept.names n before)) (classed.class n before) covered some zs root;
    above = above_known classed;
    known = λ n is some given.
        let high = stands.answer p sound far knows n (classed.kept.names n (grown.names n is)) some in
        higher_known p t s a xs m n is few (grown.sound.named n is) far up class site high covered some (above_known classed) given;
  }

  pub higher_is : (at : NodeRef × Via) → at ≡ (node_of up, via_of up) → IsClassAt p b t at.0 class → CoversOf p t s a xs at.1 at.0 m class site → IsHigherBy p r s a m xs (record { node = at.0; site = site })
  higher_is at e = subst (λ (x : NodeRef × Via). IsClassAt p b t x.0 class → CoversOf p t s a xs x.1 x.0 m class site → IsHigherBy p r s a m xs (record { node = x.0; site = site })) (sym e) higher_here

-- what covers binds rows
pub covered_rows : {S : Type 0} (p : Program) (r s : Told S) (a : AttrId) (xs : Args) (class : ClassId) (via : Via) (above m : NodeRef) (site : Option EqSite) → CoversBy p r s a xs class via above m site → IsRow xs → IfSome site (λ (e : EqSite). IsRow e.outer × IsRow e.inner)
covered_rows p r s a xs class via above m None covered row = tt
covered_rows p r s a xs class via above m (Some e) covered row = let found = covered.some e refl in (found.5.row, subst IsRow (sym found.4) row)

-- ---- what is found further up

-- where nothing is found, there is nothing further up either
pub nowhere : (p : Program) (n : Naming) (a : ℕ) (site : Option EqSite) {x y : Option Site} → site ≡ None → x ≡ y → y ≡ None → IsFound p n a x site
nowhere p n a site {x = x} e f g = subst (λ (s : Option EqSite). IsFound p n a x s) (sym e) (f ∙ g)

-- where nothing covers a node, its equation is found above it, and where an equation does, that is the equation
pub further : (p : Program) (n : Naming) (a : ℕ) (site : Option EqSite) (x y o : Option Site) → x ≡ option_or o y → IsFound p n a o site → is_some site ≡ false → x ≡ y
further p n a None x y o e found none = e ∙ ap (λ (t : Option Site). option_or t y) found
further p n a (Some s) x y o e found none = cc

pub nearest : (p : Program) (n : Naming) (a : ℕ) (site : Option EqSite) (x y o : Option Site) → x ≡ option_or o y → IsFound p n a o site → is_some site ≡ true → IsFound p n a x site
nearest p n a None x y o e found some = cc
nearest p n a (Some s) x y o e found some = (found.0, e ∙ ap (λ (t : Option Site). option_or t y) found.1, found.2)
