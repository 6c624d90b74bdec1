-- The equation of an attribute at a node, from where it is found.
use Rattle.std.proofs.Common.{◌≡◌, ℕ, zero, suc, Bool, ◌<◌, ◌≤◌, true, false, cond, is_some, arith, [], ◌∷◌, length, Option, Some, None, refl, sym, ap, subst, ◌∙◌, slice_get, pos, List, ◌++◌, map, append-nil, inl, inr}
use Rattle.std.specs.Int.{int_wrap}
use Rattle.std.proofs.lemmas.Bool.{cases_lt}
use Rattle.std.proofs.lemmas.Option.{slice_get_past}
use mir.Syntax.{w32}
use Rattle.std.specs.Option.{option_and_then, option_map, option_or}
use Rattle.ast_grammar.specs.declared.grammar.ClassId.{ClassId}
use Rattle.attr_rules.specs.declared.dispatch.Reach.{Reach}
use Rattle.attr_rules.specs.declared.dispatch.Reach.TheVariants.{Own, Component, Created, Children}
use Rattle.attr_rules.specs.declared.dispatch.Target.{Target}
use Rattle.attr_rules.specs.declared.dispatch.Via.{Via}
use Rattle.attr_rules.specs.Rules.{Equation, RuleSet, by_component, covering_number, equation_number, target_in}
use Rattle.attr_rules.specs.declared.kinds.Kind.{Kind}
use Rattle.attr_equations.proofs.BodiesFound.{body_is}
use Rattle.attr_rules.proofs.RowLists.{there}
use Rattle.tree_arena.specs.Nodes.{Node, class_in, component_in, index_in, parent_in}
use Rattle.equation_law.specs.declared.coding.EqSite.{EqSite}
use Rattle.equation_law.specs.declared.coding.Args.{Args}
use Rattle.equation_law.specs.Checked.{HasSourcesAlone}
use Rattle.equation_law.specs.Codes.{IsNamingOf, Naming, arguments_by, arguments_for, codes_in, reference_by, reference_of}
use Rattle.equation_law.specs.Created.{Making, tree_or_none}
use Rattle.equation_law.specs.Equations.{Site, bound_values, covering_by, covering_for, covering_site, first_site, followed, inherited_over, inherited_site, inherits, number_or_zero, place_among, site_above, site_at, site_at_parent, site_of, site_within, synthesized_site, upwards_from, where_made}
use Rattle.equation_law.specs.Names.{Argument, At, Attribute, Made, NodeName, Reference, Source, made_by}
use Rattle.equation_law.specs.Program.{Program, attribute_parameters, class_at, class_of, declared_of, equation_for, tree_made}
use Rattle.equation_law.specs.Values.{Int, Value, argument_value}
use Rattle.equation_law.proofs.Above.{Falls, inherited_step, map_nothing}
use Rattle.equation_law.proofs.Codes.{IsPast, node_by, past_tree}
use Rattle.equation_law.proofs.Tied.{never_makes}
use Rattle.inherited_walk.specs.Sites.{IsFound, IsSite, outer_values, reach_at, reach_or_own}
use Rattle.inherited_walk.specs.Ways.{IsWay}

-- no codes stand for no arguments
no_arguments : (n : Naming) (ks : List Kind) → arguments_by n ks [] ≡ []
no_arguments n [] = refl
no_arguments n (k ∷ ks) = refl

-- and bind nothing
pub none_bound : (p : Program) (n : Naming) (r : Reach) (xs : Args) → codes_in xs ≡ [] → outer_values p n r xs ≡ []
none_bound p n Own xs e = refl
none_bound p n (Component k) xs e = ap (map (λ c. Int (int_wrap w32 (pos c)))) e
none_bound p n (Created b) xs e = ap (λ cs. map argument_value (arguments_by n (attribute_parameters p b.0) cs)) e ∙ ap (map argument_value) (no_arguments n (attribute_parameters p b.0))
none_bound p n Children xs e = refl

module _ (p : Program) (by : Naming) (a : ℕ) (xs : Args) where
  -- the arguments
  abbrev given : List Argument
  given = arguments_for p by a xs

  -- an equation that is read above a node
  pub site_read : (root : Reference) (m : NodeName) (e r : ℕ) (outer : Args) (bound : List Value) (q : Equation) → slice_get p.rules.equations e ≡ Some q → reference_by by.node r ≡ At m → outer_values p by q.target.reach outer ≡ bound
      → IsSite p by a (record { equation = record { 0 = e }; node = record { 0 = r }; outer = outer; inner = xs }) (site_above p a given root m bound q)
  site_read root m e r outer bound q is at binds =
      let names : bound ≡ outer_values p by (reach_at p e) outer = sym binds ∙ ap (λ (o : Option Equation). outer_values p by (reach_or_own o) outer) (sym is) in
      record { body = body_is p.rules e q is; place = λ j. record { this = sym at j; names = map argument_value given ++ names j } }

  -- the equation of a synthesized attribute
  pub synthesized_found : (n : NodeName) (rules : RuleSet) (e r : ℕ) (c : ClassId) (no_args : Args) → codes_in no_args ≡ [] → reference_by by.node r ≡ At n → Some c ≡ class_at p n → rules ≡ p.rules → Some e ≡ equation_number rules c a → e < length rules.equations
      → (x : Site) × (synthesized_site p a n given ≡ Some x) × IsSite p by a (record { equation = record { 0 = e }; node = record { 0 = r }; outer = no_args; inner = xs }) x
  synthesized_found n rules e r c no_args empty at of same number within =
      let found = there p.rules.equations e (subst (λ (x : RuleSet). e < length x.equations) same within) in
      let is : Some e ≡ equation_number p.rules c a = subst (λ (x : RuleSet). Some e ≡ equation_number x c a) same number in
      let whole : synthesized_site p a n given ≡ Some (site_at p a n given found.0) =
      ap (λ (o : Option ClassId). option_map (site_at p a n given) (option_and_then (equation_for p a) o)) (sym of) ∙ ap (λ (o : Option ℕ). option_map (site_at p a n given) (option_and_then (slice_get p.rules.equations) o)) (sym is) ∙ ap (option_map (site_at p a n given)) found.1
      in
      let names : map argument_value given ≡ map argument_value given ++ outer_values p by (reach_at p e) no_args =
      sym (append-nil (map argument_value given)) ∙ ap (λ vs. map argument_value given ++ vs) (sym (none_bound p by (reach_at p e) no_args empty))
      in
      (site_at p a n given found.0, whole, record { body = body_is p.rules e found.0 found.1; place = λ j. record { this = sym at j; names = names j } })

-- the equation of a class that covers what hangs by something
pub covering_is : (p : Program) (a : ℕ) (via : Via) (c : ClassId) (rules : RuleSet) (e : ℕ) → rules ≡ p.rules → Some e ≡ covering_number rules c via a → e < length rules.equations → (q : Equation) × (covering_by p a via c ≡ Some q) × (slice_get p.rules.equations e ≡ Some q)
covering_is p a via c rules e same number within =
    let found = there p.rules.equations e (subst (λ (x : RuleSet). e < length x.equations) same within) in
    let is : Some e ≡ covering_number p.rules c via a = subst (λ (x : RuleSet). Some e ≡ covering_number x c via a) same number in
    (found.0, ap (option_and_then (slice_get p.rules.equations)) (sym is) ∙ found.1, found.1)

-- what an equation is for
pub target_is : (p : Program) {rules : RuleSet} (e : ℕ) {t : Target} (q : Equation) → rules ≡ p.rules → option_map target_in (slice_get rules.equations e) ≡ Some t → slice_get p.rules.equations e ≡ Some q → q.target ≡ t
target_is p e {t} q same target is =
    let kept : option_map target_in (slice_get p.rules.equations e) ≡ Some t = subst (λ (x : RuleSet). option_map target_in (slice_get x.equations e) ≡ Some t) same target in
    let one : option_map target_in (slice_get p.rules.equations e) ≡ Some q.target = ap (option_map target_in) is in
    cc

-- what covers a node at its parent, in a tree whose nodes have these names
module _ (p : Program) (tree : List Node) (name : ℕ → NodeName) (a : ℕ) (zs : List Argument) (root : Reference) (n u k : ℕ) (up : parent_in tree n ≡ Some u) (at : component_in tree n ≡ Some k) where
  pub covered_by : {o : Option ClassId} → class_at p (name u) ≡ o → covering_site p tree name a zs root n ≡ option_map (site_at_parent p tree name a zs root n u) (option_and_then (covering_by p a (by_component k)) o)
  covered_by {o} of =
      ap (option_and_then (λ v. option_map (site_at_parent p tree name a zs root n v) (covering_for p tree name a n v))) up
      ∙ ap (λ (x : Option ClassId). option_map (site_at_parent p tree name a zs root n u) (option_and_then (λ c. option_and_then (λ j. covering_by p a (by_component j) c) (component_in tree n)) x)) of
      ∙ ap (λ (x : Option ℕ). option_map (site_at_parent p tree name a zs root n u) (option_and_then (λ c. option_and_then (λ j. covering_by p a (by_component j) c) x) o)) at

module _ (p : Program) (by : Naming) (a : ℕ) (xs : Args) (root : Reference) (n u k : ℕ) (up : parent_in p.tree n ≡ Some u) (at : component_in p.tree n ≡ Some k) where
  -- the equation that does so in the source tree
  pub covering_found : {rules others : RuleSet} (e r i : ℕ) (c : ClassId) {t : Target} {outer : Args} → reference_by by.node r ≡ At (Source u) → Some c ≡ class_of p u → rules ≡ p.rules → Some e ≡ covering_number rules c (by_component k) a → e < length rules.equations
      → others ≡ p.rules → option_map target_in (slice_get others.equations e) ≡ Some t → index_in p.tree n ≡ Some i → outer_values p by t.reach outer ≡ bound_values t.reach i []
      → (x : Site) × (covering_site p p.tree Source a (arguments_for p by a xs) root n ≡ Some x) × IsSite p by a (record { equation = record { 0 = e }; node = record { 0 = r }; outer = outer; inner = xs }) x
  covering_found {rules} {others} e r i c {t} {outer} node of same number within other target place bound =
      let zs = arguments_for p by a xs in
      let found = covering_is p a (by_component k) c rules e same number within in
      let q = found.0 in
      let is = target_is p e q other target found.2 in
      let binds : outer_values p by q.target.reach outer ≡ bound_values q.target.reach (place_among p (Source n)) [] =
      subst (λ (x : Target). outer_values p by x.reach outer ≡ bound_values x.reach (place_among p (Source n)) []) (sym is) (bound ∙ ap (λ (o : Option ℕ). bound_values t.reach (number_or_zero o) []) (sym place))
      in
      (site_at_parent p p.tree Source a zs root n u q, covered_by p p.tree Source a zs root n u k up at (sym of) ∙ ap (option_map (site_at_parent p p.tree Source a zs root n u)) found.1, site_read p by a xs root (Source u) e r outer (bound_values q.target.reach (place_among p (Source n)) []) q found.2 node binds)

-- ---- ways upwards

none_mapped : {A B C : Type 0} (f : A → B) (g : A → C) (o : Option A) → option_map f o ≡ None → option_map g o ≡ None
none_mapped f g None e = refl
none_mapped f g (Some x) e = cc

module _ (p : Program) (a n : ℕ) where
  -- what covers the way to a source node doesn't depend on the arguments, or on which tree it would make
  uncovered : (zs ys : List Argument) (root other : Reference) (o : Option ℕ) → option_and_then (λ u. option_map (site_at_parent p p.tree Source a zs root n u) (covering_for p p.tree Source a n u)) o ≡ None
      → option_and_then (λ u. option_map (site_at_parent p p.tree Source a ys other n u) (covering_for p p.tree Source a n u)) o ≡ None
  uncovered zs ys root other None e = refl
  uncovered zs ys root other (Some u) e = none_mapped (site_at_parent p p.tree Source a zs root n u) (site_at_parent p p.tree Source a ys other n u) (covering_for p p.tree Source a n u) e

  pub uncovered_any : (by : Naming) (zs : List Argument) (root : Reference) (o : Option EqSite) → IsFound p by a (covering_site p p.tree Source a zs root n) o → is_some o ≡ false → (ys : List Argument) (other : Reference) → covering_site p p.tree Source a ys other n ≡ None
  uncovered_any by zs root None found e ys other = uncovered zs ys root other (parent_in p.tree n) found
  uncovered_any by zs root (Some s) found e ys other = cc

  module _ (by : Naming) (u : ℕ) (zs : List Argument) (root : Reference) (falls : Falls p.tree) (up : parent_in p.tree n ≡ Some u) where
    -- where nothing covers a node at its parent, its equation is found at the parent
    pub found_above : (o : Option EqSite) → IsFound p by a (covering_site p p.tree Source a zs root n) o → is_some o ≡ false → (ys : List Argument) (other : Reference) → inherited_site p a ys other (Source n) ≡ inherited_site p a ys other (Source u)
    found_above o found none ys other = inherited_step p a ys other falls n u up ∙ ap (λ (x : Option Site). option_or x (inherited_site p a ys other (Source u))) (uncovered_any by zs root o found none ys other)

    -- and where an equation covers it, that is the equation
    pub found_here : (o : Option EqSite) → IsFound p by a (covering_site p p.tree Source a zs root n) o → is_some o ≡ true → IsFound p by a (inherited_site p a zs root (Source n)) o
    found_here None found there = cc
    found_here (Some s) found there = (found.0, inherited_step p a zs root falls n u up ∙ ap (λ (x : Option Site). option_or x (inherited_site p a zs root (Source u))) found.1, found.2)

-- a way goes on where nothing covers it
pub way_itself : (p : Program) (a n : ℕ) → IsWay p a n n
way_itself p a n = record { above = omega arith; same = λ zs root. refl }

pub way_further : (p : Program) (a n m u t : ℕ) → Falls p.tree → IsWay p a n m → parent_in p.tree m ≡ Some u → ((zs : List Argument) (root : Reference) → covering_site p p.tree Source a zs root m ≡ None) → IsWay p a u t → IsWay p a n t
way_further p a n m u t falls way up bare more =
    let less = falls m u up in
    record {
      above = omega (arith, way.above, less, more.above);
      same = λ zs root. way.same zs root ∙ (inherited_step p a zs root falls m u up ∙ ap (λ (x : Option Site). option_or x (inherited_site p a zs root (Source u))) (bare zs root)) ∙ more.same zs root;
    }

-- the rest of a way
pub way_rest : (p : Program) (a n m t : ℕ) → IsWay p a n t → IsWay p a n m → t ≤ m → IsWay p a m t
way_rest p a n m t whole front le = record { above = le; same = λ zs root. sym (front.same zs root) ∙ whole.same zs root }

-- where a way leads the equation is found
pub way_found : (p : Program) (by : Naming) (a n t : ℕ) (zs : List Argument) (root : Reference) (o : Option EqSite) → IsWay p a n t → IsFound p by a (inherited_site p a zs root (Source t)) o → IsFound p by a (inherited_site p a zs root (Source n)) o
way_found p by a n t zs root o way found = subst (λ (x : Option Site). IsFound p by a x o) (sym (way.same zs root)) found

-- ---- nodes without a class

-- a source node without a parent inherits nothing
orphan : (p : Program) (a : ℕ) (zs : List Argument) (root : Reference) (n : ℕ) → parent_in p.tree n ≡ None → inherited_site p a zs root (Source n) ≡ None
orphan p a zs root n none = ap (first_site (covering_site p p.tree Source a zs root)) (alone n none) ∙ ap (λ (o : Option Site). option_or o None) (uncovered_root none)
  where
    alone : (m : ℕ) → parent_in p.tree m ≡ None → upwards_from m p.tree m ≡ m ∷ []
    alone zero e = refl
    alone (suc m) e = ap (λ (o : Option ℕ). suc m ∷ followed o (upwards_from m p.tree)) e

    uncovered_root : parent_in p.tree n ≡ None → covering_site p p.tree Source a zs root n ≡ None
    uncovered_root e = ap (option_and_then (λ u. option_map (site_at_parent p p.tree Source a zs root n u) (covering_for p p.tree Source a n u))) e

-- where no node stands there is no parent
no_parent : (nodes : List Node) (n : ℕ) → class_in nodes n ≡ None → parent_in nodes n ≡ None
no_parent nodes zero e = refl
no_parent nodes (suc n) e = ap (option_map (λ (x : Node). x.parent)) (map_nothing (λ (x : Node). x.class) (slice_get nodes (suc n)) e)

-- what has no class inherits nothing
pub classless : (p : Program) (a : ℕ) (zs : List Argument) (root : Reference) (n : NodeName) → class_at p n ≡ None → inherited_site p a zs root n ≡ None
classless p a zs root (Source n) e = orphan p a zs root n (no_parent p.tree n e)
classless p a zs root (Made b r ys q) e = ap (λ (o : Option ClassId). where_made o (option_or (site_within p (tree_made p b r) (Made b r ys) a zs root q) (inherited_over p a zs root b ys r)) None) e

-- and has no equation
pub no_site : (p : Program) (a : ℕ) (zs : List Argument) (n : NodeName) → class_at p n ≡ None → site_of p (Attribute a (At n) zs) ≡ None
no_site p a zs n none =
    elim (inherits (declared_of p a)) as (λ b. cond b (inherited_site p a zs (made_by (Attribute a (At n) zs) 0) n) (synthesized_site p a n zs) ≡ None) [
      | true ↦ classless p a zs (made_by (Attribute a (At n) zs) 0) n none
      | false ↦ ap (λ (o : Option ClassId). option_map (site_at p a n zs) (option_and_then (equation_for p a) o)) none
    ]

-- what stands past the source nodes of a program that makes nothing has no class
pub past_bare : (p : Program) → HasSourcesAlone p → (n : NodeName) → IsPast p n → class_at p n ≡ None
past_bare p bare (Source k) past = ap (option_map (λ (x : Node). x.class)) (slice_get_past p.tree k past)
past_bare p bare (Made a r xs q) past = ap (λ (o : Option Making). class_in (tree_or_none o) q) (never_makes p bare a r)

module _ {p : Program} {by : Naming} (h : IsNamingOf p by) (a : ℕ) (zs : List Argument) where
  none_either : (o : Option EqSite) {x y : Option Site} → x ≡ None → y ≡ None → IsFound p by a x o → IsFound p by a y o
  none_either None e f found = f
  none_either (Some s) e f found = absurd (let other = sym e ∙ found.1 in let none : None ≡ Some found.0 = other in cc)

  -- in a program that makes nothing, what is found at the source node of a number is found at the node for which its code stands
  pub found_by : HasSourcesAlone p → (k : ℕ) (o : Option EqSite) → IsFound p by a (site_of p (Attribute a (At (Source k)) zs)) o → IsFound p by a (site_of p (Attribute a (At (by.node k)) zs)) o
  found_by bare k o found = elim (cases_lt k (length p.tree)) [
    | inl w ↦ let few = bare.few in subst (λ (x : NodeName). IsFound p by a (site_of p (Attribute a (At x) zs)) o) (sym (h.sources k (omega (arith, w, few)))) found
    | inr w ↦ none_either o (no_site p a zs (Source k) (past_bare p bare (Source k) w)) (no_site p a zs (by.node k) (past_bare p bare (by.node k) (past_tree h bare.few k w))) found
  ]

  -- by its code, and by whether the attribute is inherited
  pub found_at : HasSourcesAlone p → (k c : ℕ) (b : Bool) (o : Option EqSite) → At (Source k) ≡ reference_of c → b ≡ inherits (declared_of p a)
      → IsFound p by a (cond b (inherited_site p a zs (made_by (Attribute a (At (Source k)) zs) 0) (Source k)) (synthesized_site p a (Source k) zs)) o → IsFound p by a (site_of p (Attribute a (reference_by by.node c) zs)) o
  found_at bare k c b o is sort found =
      let here = subst (λ (d : Bool). IsFound p by a (cond d (inherited_site p a zs (made_by (Attribute a (At (Source k)) zs) 0) (Source k)) (synthesized_site p a (Source k) zs)) o) sort found in
      subst (λ (x : Reference). IsFound p by a (site_of p (Attribute a x zs)) o) (sym (node_by by.node k c is)) (found_by bare k o here)
