-- Equations that are found for attributes: of synthesized ones at the class of a node, of inherited ones above it. In rules that break
-- nothing there is one for each.
use Rattle.std.proofs.Common.{◌≡◌, ℕ, zero, suc, ◌<◌, ◌≤◌, Bool, true, false, ◌&&◌, ◌||◌, ◌⊎◌, inl, inr, List, [], ◌∷◌, eqb, get_or, map, Option, Some, None, All, IsSome, length, slice_get, refl, sym, ap, subst, ◌∙◌, arith}
use Rattle.std.specs.List.{list_any}
use Rattle.std.specs.Option.{option_and_then, option_map, option_or}
use Rattle.std.proofs.lemmas.Bool.{eq-eqb, eqb-true, or_right}
use Rattle.std.proofs.lemmas.List.Elements.{All-weaker}
use Rattle.std.proofs.lemmas.List.Quantifiers.{position-Some}
use Rattle.std.proofs.lemmas.Option.{get_or_from_slice_get, slice_get-get_or, slice_get-map, slice_get_within}
use Rattle.superclasses.specs.Superclasses.{is_sub as is_below, upwards}
use Rattle.ast_grammar.specs.declared.grammar.ClassId.{ClassId}
use Rattle.ast_grammar.specs.Grammar.{IsClass}
use Rattle.attr_rules.specs.declared.dispatch.Reach.{Reach}
use Rattle.attr_rules.specs.declared.dispatch.Reach.TheVariants.{Own, Component, Created, Children}
use Rattle.attr_rules.specs.declared.dispatch.Target.{Target}
use Rattle.attr_rules.specs.declared.dispatch.Via.{Via}
use Rattle.attr_rules.specs.Rules.{Equation, RuleSet, by_component, covering_equation, covering_number, equation_at, first_of_line, first_of_name, is_target, nearest_equation, own_covering, own_equation, reach_via, same_reach, target_in}
use Rattle.tree_arena.specs.Nodes.{Node as TreeNode, component_in, parent_in}
use Rattle.tree_arena.specs.Terms.{HasFew, IsTree}
use Rattle.tree_arena.proofs.Seen.{hung_at}
use Rattle.equation_law.specs.Checked.{IsProgram}
use Rattle.equation_law.specs.Equations.{Site, covering_by, covering_for, covering_site, first_site, followed, inherited_site, site_at_parent, site_within, upwards_from, where_made}
use Rattle.equation_law.specs.Names.{Argument, NodeName, Reference, Source}
use Rattle.equation_law.specs.Program.{Program, class_at}
use Rattle.equation_law.proofs.Keys.{both_equal}
use Rattle.equation_law.proofs.Lists.{some_of}

-- what holds of all elements holds of each
pub each_of : {A : Type 0} (P : A → Type 0) (xs : List A) (k : ℕ) (x : A) → All P xs → slice_get xs k ≡ Some x → P x
each_of P xs k x all e = subst P (get_or_from_slice_get xs k x x e) (all k x (slice_get_within xs k x e))

-- what is there is something
pub there_is : {A : Type 0} (o : Option A) → IsSome o → (x : A) × (o ≡ Some x)
there_is None h = cc
there_is (Some x) h = (x, refl)

-- what is reached through something was there
pub through : {A B : Type 0} (f : A → Option B) (o : Option A) (y : B) → option_and_then f o ≡ Some y → (x : A) × (o ≡ Some x) × (f x ≡ Some y)
through f None y e = cc
through f (Some x) y e = (x, refl, e)

-- what is nothing comes of nothing
pub map_nothing : {A B : Type 0} (f : A → B) (o : Option A) → option_map f o ≡ None → o ≡ None
map_nothing f None e = refl
map_nothing f (Some x) e = cc

-- one of two is nothing where neither is there
pub or_nothing : {A : Type 0} (o q : Option A) → option_or o q ≡ None → (o ≡ None) × (q ≡ None)
or_nothing None q e = (refl, e)
or_nothing (Some x) q e = cc

-- what one of two has
pub or_either : {A : Type 0} (P : Type 0) (o q : Option A) (y : A) → (o ≡ Some y → P) → (q ≡ Some y → P) → option_or o q ≡ Some y → P
or_either P None q y f g e = g e
or_either P (Some x) q y f g e = f e

-- what is had of a node that was made is had where there is such a node
pub where_there : {A : Type 0} (o : Option ClassId) (x : Option A) (y : A) → where_made o x None ≡ Some y → x ≡ Some y
where_there None x y e = cc
where_there (Some c) x y e = e

-- what the first of a line has, one of the line has
on_line : (f : ℕ → Option ℕ) (line : List ℕ) (k : ℕ) → first_of_line f line ≡ Some k → (b : ℕ) × (list_any (λ c. eqb c b) line ≡ true) × (f b ≡ Some k)
on_line f [] k e = cc
on_line f (c ∷ cs) k e = elim (f c) as (λ o. f c ≡ o → option_or o (first_of_line f cs) ≡ Some k → (b : ℕ) × (list_any (λ x. eqb x b) (c ∷ cs) ≡ true) × (f b ≡ Some k)) [
  | None ↦ λ none later. let r = on_line f cs k later in (r.0, or_right (eqb c r.0) _ r.1, r.2)
  | Some j ↦ λ some same. (c, ap (λ b. b || list_any (λ x. eqb x c) cs) (eq-eqb c c refl), some ∙ same)
] refl e

-- the class whose equation is the nearest one is the class itself or above it
pub nearest_above : (s : List (Option ℕ)) (targets : List Target) (c a k : ℕ) → nearest_equation s targets c a ≡ Some k → (b : ℕ) × (is_below s c b ≡ true) × (own_equation targets a b ≡ Some k)
nearest_above s targets c a k e = on_line (own_equation targets a) (upwards s c) k e

pub both_hold : (x y : Bool) → (x && y) ≡ true → (x ≡ true) × (y ≡ true)
both_hold true y e = (refl, e)
both_hold false y e = cc

-- what an equation of a class is for
pub target_found : (equations : List Equation) (b : ℕ) (r : Reach) (a k : ℕ) → equation_at (map target_in equations) b r a ≡ Some k
    → (q : Equation) × (slice_get equations k ≡ Some q) × (q.target.class.0 ≡ b) × (q.target.attribute.0 ≡ a) × (same_reach q.target.reach r ≡ true)
target_found equations b r a k e =
    let none : Target = record { class = record { 0 = 0 }; reach = Own; attribute = record { 0 = 0 } } in
    let at = position-Some (is_target b r a) (map target_in equations) k none e in
    let found = some_of target_in (slice_get equations k) (get_or (map target_in equations) k none) (sym (slice_get-map target_in equations k) ∙ slice_get-get_or (map target_in equations) k none at.0) in
    let test = subst (λ (t : Target). is_target b r a t ≡ true) (sym found.2) at.1 in
    let parts = both_hold (same_reach found.0.target.reach r) _ test in
    let same = both_equal found.0.target.class.0 b found.0.target.attribute.0 a parts.1 in
    (found.0, found.1, same.0, same.1, parts.0)

-- the nodes are roots of trees that an attribute makes
abbrev pub are_created : Reach → Bool
are_created Own = false
are_created (Component k) = false
are_created (Created b) = true
are_created Children = false

-- those for the same nodes are one
pub same_reach_is : (r w : Reach) → same_reach r w ≡ true → r ≡ w
same_reach_is Own Own e = refl
same_reach_is Own (Component k) e = cc
same_reach_is Own (Created b) e = cc
same_reach_is Own Children e = cc
same_reach_is (Component j) Own e = cc
same_reach_is (Component j) (Component k) e = ap (λ (n : ℕ). Component (record { 0 = n })) (eqb-true j.0 k.0 e)
same_reach_is (Component j) (Created b) e = cc
same_reach_is (Component j) Children e = cc
same_reach_is (Created a) Own e = cc
same_reach_is (Created a) (Component k) e = cc
same_reach_is (Created a) (Created b) e = ap (λ (n : ℕ). Created (record { 0 = n })) (eqb-true a.0 b.0 e)
same_reach_is (Created a) Children e = cc
same_reach_is Children Own e = cc
same_reach_is Children (Component k) e = cc
same_reach_is Children (Created b) e = cc
same_reach_is Children Children e = refl

-- An equation that covers, for an inherited attribute, what hangs by a component or an attribute at nodes of a class: it is of the class or of
-- one above it, for the first attribute of the name, and for just that or for every child.
pub record CoversBy (r : RuleSet) (a : ℕ) (c : ClassId) (v : Via) (e : ℕ) : Type 0 where
  pub equation : Equation
  pub is : slice_get r.equations e ≡ Some equation
  pub first : ℕ
  pub named : first_of_name r.attributes a ≡ Some first
  pub attribute : equation.target.attribute.0 ≡ first
  pub above : is_below r.superclasses c.0 equation.target.class.0 ≡ true
  pub reach : (equation.target.reach ≡ reach_via v) ⊎ (equation.target.reach ≡ Children)

pub covers : (r : RuleSet) (a : ℕ) (c : ClassId) (v : Via) (e : ℕ) → covering_number r c v a ≡ Some e → CoversBy r a c v e
covers r a c v e h =
    let targets = map target_in r.equations in
    let name = through (covering_equation r.superclasses targets c.0 v) (first_of_name r.attributes a) e h in
    let near = on_line (own_covering targets v name.0) (upwards r.superclasses c.0) e name.2 in
    let found : (w : Reach) → ((s : Reach) → s ≡ w → (s ≡ reach_via v) ⊎ (s ≡ Children)) → equation_at targets near.0 w name.0 ≡ Some e → CoversBy r a c v e = λ w one is.
    let q = target_found r.equations near.0 w name.0 e is in
    record {
      equation = q.0;
      is = q.1;
      first = name.0;
      named = name.1;
      attribute = q.3;
      above = subst (λ (x : ℕ). is_below r.superclasses c.0 x ≡ true) (sym q.2) near.1;
      reach = one q.0.target.reach (same_reach_is q.0.target.reach w q.4);
    } in
    or_either (CoversBy r a c v e) (equation_at targets near.0 (reach_via v) name.0) (equation_at targets near.0 Children name.0) e (found (reach_via v) (λ s f. inl f)) (found Children (λ s f. inr f)) near.2

-- each parent in a tree has a smaller number
abbrev pub Falls : List TreeNode → Type 0
Falls tree = (n u : ℕ) → parent_in tree n ≡ Some u → u < n

pub tree_falls : (tree : List TreeNode) → IsTree tree → Falls tree
tree_falls tree t zero u e = cc
tree_falls tree t (suc n) u e =
    let x = some_of (λ (y : TreeNode). y.parent) (slice_get tree (suc n)) u e in
    let hung = hung_at tree t (suc n) x.0 (omega arith) x.1 in
    let before = hung.before in
    omega (arith, before, x.2)

module _ (tree : List TreeNode) (falls : Falls tree) where
  -- with more room there are no more ancestors
  same_upwards : (f h n : ℕ) → n ≤ f → n ≤ h → upwards_from f tree n ≡ upwards_from h tree n
  same_upwards zero zero n l m = refl
  same_upwards zero (suc h) zero l m = refl
  same_upwards zero (suc h) (suc n) l m = absurd (omega (arith, l))
  same_upwards (suc f) zero zero l m = refl
  same_upwards (suc f) zero (suc n) l m = absurd (omega (arith, m))
  same_upwards (suc f) (suc h) n l m = ap (λ ns. n ∷ ns) (followed_same (parent_in tree n) (λ u e. let smaller = falls n u e in same_upwards f h u (omega (arith, l, smaller)) (omega (arith, m, smaller))))
    where
      followed_same : (o : Option ℕ) → ((u : ℕ) → o ≡ Some u → upwards_from f tree u ≡ upwards_from h tree u) → followed o (upwards_from f tree) ≡ followed o (upwards_from h tree)
      followed_same None g = refl
      followed_same (Some u) g = g u refl

  -- a node and those above its parent
  pub upwards_step : (n u : ℕ) → parent_in tree n ≡ Some u → upwards_from n tree n ≡ n ∷ upwards_from u tree u
  upwards_step zero u e = cc
  upwards_step (suc m) u e =
      let smaller = falls (suc m) u e in
      ap (λ (o : Option ℕ). suc m ∷ followed o (upwards_from m tree)) e ∙ ap (λ ns. suc m ∷ ns) (same_upwards m u u (omega (arith, smaller)) (omega arith))

  -- the root has none above it
  pub upwards_end : (n : ℕ) → parent_in tree n ≡ None → upwards_from n tree n ≡ n ∷ []
  upwards_end zero e = refl
  upwards_end (suc m) e = ap (λ (o : Option ℕ). suc m ∷ followed o (upwards_from m tree)) e

-- what is found for some nodes is found for one of them
pub first_found : (f : ℕ → Option Site) (ns : List ℕ) (s : Site) → first_site f ns ≡ Some s → (m : ℕ) × (f m ≡ Some s)
first_found f [] s e = cc
first_found f (n ∷ ns) s e = or_either ((m : ℕ) × (f m ≡ Some s)) (f n) (first_site f ns) s (λ h. (n, h)) (first_found f ns s) e

-- a class without an equation that covers something has no number of one
pub covered_none : (p : Program) (a : ℕ) (c : ClassId) (v : Via) → covering_by p a v c ≡ None → covering_number p.rules c v a ≡ None
covered_none p a c v e = elim (covering_number p.rules c v a) as (λ o. covering_number p.rules c v a ≡ o → option_and_then (slice_get p.rules.equations) o ≡ None → o ≡ None) [
  | None ↦ λ is h. refl
  | Some k ↦ λ is h. let q = covers p.rules a c v k is in let there = q.is in absurd (cc)
] refl e

module _ (p : Program) (tree : List TreeNode) (name : ℕ → NodeName) (a : ℕ) (xs : List Argument) (root : Reference) where
  -- in a tree the equation of an inherited attribute at a node is the one that covers it at its parent, and else that at the parent
  pub within_step : Falls tree → (n u : ℕ) → parent_in tree n ≡ Some u → site_within p tree name a xs root n ≡ option_or (covering_site p tree name a xs root n) (site_within p tree name a xs root u)
  within_step falls n u e = ap (first_site (covering_site p tree name a xs root)) (upwards_step tree falls n u e)

  -- the root has none there
  pub within_end : Falls tree → (n : ℕ) → parent_in tree n ≡ None → site_within p tree name a xs root n ≡ None
  within_end falls n e =
      ap (first_site (covering_site p tree name a xs root)) (upwards_end tree falls n e) ∙ ap (λ (o : Option ℕ). option_or (option_and_then (λ u. option_map (site_at_parent p tree name a xs root n u) (covering_for p tree name a n u)) o) None) e

  -- where nothing covers a node at its parent, no equation of the parent's class covers what hangs there
  pub covering_none : (n u k : ℕ) (c : ClassId) → parent_in tree n ≡ Some u → class_at p (name u) ≡ Some c → component_in tree n ≡ Some k → covering_site p tree name a xs root n ≡ None → covering_number p.rules c (by_component k) a ≡ None
  covering_none n u k c up of at none =
      let here : option_map (site_at_parent p tree name a xs root n u) (covering_for p tree name a n u) ≡ None = sym (ap (option_and_then (λ v. option_map (site_at_parent p tree name a xs root n v) (covering_for p tree name a n v))) up) ∙ none in
      let found : covering_by p a (by_component k) c ≡ None =
      sym (ap (option_and_then (λ j. covering_by p a (by_component j) c)) at)
      ∙ sym (ap (option_and_then (λ d. option_and_then (λ j. covering_by p a (by_component j) d) (component_in tree n))) of)
      ∙ map_nothing (site_at_parent p tree name a xs root n u) (covering_for p tree name a n u) here
      in
      covered_none p a c (by_component k) found

-- In the source tree that is so of all nodes.
module _ (p : Program) (a : ℕ) (xs : List Argument) (root : Reference) where
  pub inherited_step : Falls p.tree → (n u : ℕ) → parent_in p.tree n ≡ Some u → inherited_site p a xs root (Source n) ≡ option_or (covering_site p p.tree Source a xs root n) (inherited_site p a xs root (Source u))
  inherited_step falls n u e = within_step p p.tree Source a xs root falls n u e

module _ (p : Program) (good : IsProgram p) where
  -- the tree of a program is a tree
  pub program_tree : IsTree p.tree
  program_tree = record {
    grammar = p.grammar;
    short = All-weaker (IsClass (length p.grammar)) HasFew (λ c class. class.short) p.grammar good.grammar.classes;
    texts = length p.texts;
    tree = good.tree;
  }

  pub falls : Falls p.tree
  falls = tree_falls p.tree program_tree
