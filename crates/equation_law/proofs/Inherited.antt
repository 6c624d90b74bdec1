-- Inherited attributes: where the equation of one stands, and that there is one. In rules that break nothing no node is uncovered, neither of the
-- source tree nor of one that was made.
use Rattle.std.proofs.Common.{◌≡◌, ℕ, zero, suc, ◌<◌, ◌≤◌, false, true, ◌⊎◌, inl, inr, List, [], map, Option, Some, None, IsSome, length, slice_get, refl, sym, ap, subst, ◌∙◌, arith}
use Rattle.std.specs.Option.{option_and_then, option_map, option_or}
use Rattle.std.proofs.lemmas.Option.{slice_get_within}
use Rattle.ast_grammar.specs.declared.grammar.ClassId.{ClassId}
use Rattle.ast_grammar.specs.Grammar.{Class, abstract_in, is_sub}
use Rattle.attr_rules.specs.declared.dispatch.Reach.{Reach}
use Rattle.attr_rules.specs.declared.dispatch.Reach.TheVariants.{Created, Children}
use Rattle.attr_rules.specs.declared.dispatch.Via.{Via}
use Rattle.attr_rules.specs.declared.kinds.Attr.{Attr}
use Rattle.attr_rules.specs.Rules.{Equation, Uncovered, at_component, attribute_at, below, by_component, by_created, covering_number, created, is_inherited, reach_via, root as at_root}
use Rattle.attr_rules.specs.Typing.{IsConcrete}
use Rattle.tree_arena.specs.Nodes.{Node as TreeNode, class_in, component_in, parent_in}
use Rattle.equation_law.specs.Checked.{IsNode, IsProgram}
use Rattle.equation_law.specs.Equations.{Site, attribute_kind, bound_values, covering_by, covering_for, covering_site, inherited_over, inherited_site, place_among, site_above, site_at_owner, site_at_parent, site_within, upwards_from, where_made}
use Rattle.equation_law.specs.Names.{Argument, At, Made, NodeName, Null, Reference, Row, Source, list_of}
use Rattle.equation_law.specs.Program.{Program, class_at, tree_made}
use Rattle.equation_law.specs.Values.{Value, argument_value}
use Rattle.equation_law.proofs.Above.{CoversBy, Falls, are_created, covered_none, covering_none, covers, falls, first_found, map_nothing, or_either, or_nothing, through, where_there, within_step}
use Rattle.equation_law.proofs.Among.{IsInside, beside, owner, same, source}
use Rattle.equation_law.proofs.Created.{made_falls, made_placed, made_root, node_beside, node_class}
use Rattle.equation_law.proofs.Lists.{some_of}
use Rattle.equation_law.proofs.Preordered.{IsPlaced, node_concrete, node_placed, root_below}

-- What the path of an equation binds where it is read, at node m, for an instance at node n: a place, or the arguments of a tree that was made at m.
pub data Binds (p : Program) (n m : NodeName) : Reach → List Value → Type 0 where
  by_place : (r : Reach) (i : ℕ) → are_created r ≡ false → Binds p n m r (bound_values r i [])
  by_arguments : (r : Reach) (b : ℕ) (ys : Row) (q : ℕ) → (r ≡ Created (record { 0 = b })) ⊎ (r ≡ Children) → IsInside p n (Made b (At m) ys q) → Binds p n m r (bound_values r 0 (map argument_value (list_of ys)))

-- An equation that is read above a node.
pub record IsAbove (p : Program) (a : ℕ) (xs : List Argument) (root : Reference) (n : NodeName) (s : Site) : Type 0 where
  pub node : NodeName
  pub class : ClassId
  pub of : class_at p node ≡ Some class
  pub inside : IsInside p n node
  pub via : Via
  pub number : ℕ
  pub found : CoversBy p.rules a class via number
  pub bound : List Value
  pub binds : Binds p n node found.equation.target.reach bound
  pub is : site_above p a xs root node bound found.equation ≡ s

-- where the node stands further out, so does what is bound
binds_further : (p : Program) (b : ℕ) (m k : NodeName) (ys : Row) (q : ℕ) (r : Reach) (bound : List Value) → Binds p m k r bound → Binds p (Made b (At m) ys q) k r bound
binds_further p b m k ys q _ _ (by_place r i h) = by_place r i h
binds_further p b m k ys q _ _ (by_arguments r d zs j h i) = by_arguments r d zs j h (owner i)

-- an equation that covers what hangs at a component isn't for the roots of trees alone
not_created : (k : ℕ) (r : Reach) → (r ≡ at_component k) ⊎ (r ≡ Children) → are_created r ≡ false
not_created k r h = elim h [
  | inl e ↦ ap are_created e
  | inr e ↦ ap are_created e
]

-- what has a class is in the tree
class_within : (nodes : List TreeNode) (n : ℕ) (c : ClassId) → class_in nodes n ≡ Some c → n < length nodes
class_within nodes n c e = let x = some_of (λ (y : TreeNode). y.class) (slice_get nodes n) c e in slice_get_within nodes n x.0 x.1

module _ (p : Program) (a : ℕ) (xs : List Argument) (root : Reference) where
  -- an equation that covers what hangs at a node is read there
  read_by : (n m : NodeName) (c : ClassId) (v : Via) (q : Equation) (bound : List Value) (s : Site) → class_at p m ≡ Some c → covering_by p a v c ≡ Some q → IsInside p n m
      → ((q.target.reach ≡ reach_via v) ⊎ (q.target.reach ≡ Children) → Binds p n m q.target.reach bound) → site_above p a xs root m bound q ≡ s → IsAbove p a xs root n s
  read_by n m c v q bound s of cover inside binds read =
      let number = through (slice_get p.rules.equations) (covering_number p.rules c v a) q cover in
      let found = covers p.rules a c v number.0 number.1 in
      let same : found.equation ≡ q = let one = found.is in let other = number.2 in cc in
      record {
        node = m;
        class = c;
        of = of;
        inside = inside;
        via = v;
        number = number.0;
        found = found;
        bound = bound;
        binds = subst (λ (x : Equation). Binds p n m x.target.reach bound) (sym same) (binds (subst (λ (x : Equation). (x.target.reach ≡ reach_via v) ⊎ (x.target.reach ≡ Children)) same found.reach));
        is = ap (site_above p a xs root m bound) same ∙ read;
      }

  -- in a tree, at nodes that are met from the node
  read_within : (tree : List TreeNode) (name : ℕ → NodeName) (n : NodeName) → ((u : ℕ) (c : ClassId) → class_at p (name u) ≡ Some c → IsInside p n (name u)) → (q : ℕ) (s : Site) → site_within p tree name a xs root q ≡ Some s → IsAbove p a xs root n s
  read_within tree name n met q s h =
      let at = first_found (covering_site p tree name a xs root) (upwards_from q tree q) s h in
      let m = at.0 in
      let up = through (λ u. option_map (site_at_parent p tree name a xs root m u) (covering_for p tree name a m u)) (parent_in tree m) s at.1 in
      let u = up.0 in
      let e = some_of (site_at_parent p tree name a xs root m u) (covering_for p tree name a m u) s up.2 in
      let class = through (λ c. option_and_then (λ k. covering_by p a (by_component k) c) (component_in tree m)) (class_at p (name u)) e.0 e.1 in
      let component = through (λ k. covering_by p a (by_component k) class.0) (component_in tree m) e.0 class.2 in
      let reach = e.0.target.reach in
      let place = place_among p (name m) in
      read_by n (name u) class.0 (by_component component.0) e.0 (bound_values reach place []) s class.1 component.2 (met u class.0 class.1) (λ r. by_place reach place (not_created component.0 reach r)) e.2

  -- at the owner of a tree
  read_at_owner : (b : ℕ) (ys : Row) (m : NodeName) (q : ℕ) (s : Site) → site_at_owner p a xs root b ys m ≡ Some s → IsAbove p a xs root (Made b (At m) ys q) s
  read_at_owner b ys m q s h =
      let given = map argument_value (list_of ys) in
      let e = some_of (λ (x : Equation). site_above p a xs root m (bound_values x.target.reach 0 given) x) (option_and_then (covering_by p a (by_created b)) (class_at p m)) s h in
      let class = through (covering_by p a (by_created b)) (class_at p m) e.0 e.1 in
      let reach = e.0.target.reach in
      read_by (Made b (At m) ys q) m class.0 (by_created b) e.0 (bound_values reach 0 given) s class.1 class.2 (owner same) (λ r. by_arguments reach b ys q r same) e.2

  -- and above it
  read_further : (b : ℕ) (ys : Row) (m : NodeName) (q : ℕ) (s : Site) → IsAbove p a xs root m s → IsAbove p a xs root (Made b (At m) ys q) s
  read_further b ys m q s up = record {
    node = up.node;
    class = up.class;
    of = up.of;
    inside = owner up.inside;
    via = up.via;
    number = up.number;
    found = up.found;
    bound = up.bound;
    binds = binds_further p b m up.node ys q up.found.equation.target.reach up.bound up.binds;
    is = up.is;
  }

  -- in the tree of a node that was made
  read_in_made : (b : ℕ) (r : Reference) (ys : Row) (q : ℕ) (s : Site) → site_within p (tree_made p b r) (Made b r ys) a xs root q ≡ Some s → IsAbove p a xs root (Made b r ys q) s
  read_in_made b r ys q s h = read_within (tree_made p b r) (Made b r ys) (Made b r ys q) (λ u c of. beside u (class_within (tree_made p b r) u c of) same) q s h

  -- the equation of an inherited attribute at a node is read above it
  pub read_above : (n : NodeName) (s : Site) → inherited_site p a xs root n ≡ Some s → IsAbove p a xs root n s
  read_above (Source k) s h = read_within p.tree Source (Source k) (λ u c of. source u (class_within p.tree u c of)) k s h
  read_above (Made b Null ys q) s h = or_either (IsAbove p a xs root (Made b Null ys q) s) (site_within p (tree_made p b Null) (Made b Null ys) a xs root q) None s (read_in_made b Null ys q s) (λ e. cc) (where_there (class_at p (Made b Null ys q)) _ s h)
  read_above (Made b (At m) ys q) s h =
      let Goal = IsAbove p a xs root (Made b (At m) ys q) s in
      or_either Goal (site_within p (tree_made p b (At m)) (Made b (At m) ys) a xs root q) (inherited_over p a xs root b ys (At m)) s (read_in_made b (At m) ys q s)
      (λ over. or_either Goal (site_at_owner p a xs root b ys m) (inherited_site p a xs root m) s (read_at_owner b ys m q s) (λ e. read_further b ys m q s (read_above m s e)) over) (where_there (class_at p (Made b (At m) ys q)) _ s h)

-- its type is the attribute's
pub inherited_kind : (p : Program) (a : ℕ) (xs : List Argument) (root : Reference) (n : NodeName) (s : Site) → inherited_site p a xs root n ≡ Some s → attribute_kind p a ≡ s.kind
inherited_kind p a xs root n s e = ap (λ (x : Site). x.kind) (read_above p a xs root n s e).is

-- a class of which there are nodes is one of the grammar
concrete_within : (g : List Class) (c : ℕ) → IsConcrete g c → c < length g
concrete_within g c e = let x = some_of abstract_in (slice_get g c) false e in slice_get_within g c x.0 x.1

module _ (p : Program) (good : IsProgram p) where
  pub inherited_above : (a : ℕ) (xs : List Argument) (root : Reference) (n : NodeName) → IsNode p n → (s : Site) → inherited_site p a xs root n ≡ Some s → IsAbove p a xs root n s
  inherited_above a xs root n there s e = read_above p a xs root n s e

  -- what is met from a node is a node
  pub inside_node : {n m : NodeName} → IsInside p n m → IsNode p n → IsNode p m
  inside_node same there = there
  inside_node (source j l) there = l
  inside_node (beside {a = b} {r = r} {xs = ys} {q = q} m l i) there = inside_node i (node_beside p good b r ys q m there l)
  inside_node (owner i) there = inside_node i there.3.0

  module _ (a : ℕ) (xs : List Argument) (root : Reference) where
    -- the class of a node is uncovered
    abbrev IsUncovered : ClassId → Type 0
    IsUncovered c = Uncovered p.grammar p.rules a c.0

    module _ (tree : List TreeNode) (name : ℕ → NodeName) (low : Falls tree) (placed : (n : ℕ) (x : TreeNode) → slice_get tree (suc n) ≡ Some x → IsPlaced p.grammar (class_in tree) x.class x.parent x.component)
        (named : (n : ℕ) → class_at p (name n) ≡ class_in tree n) (top : (c : ClassId) → class_in tree 0 ≡ Some c → IsUncovered c) where
      -- in a tree of which the root's class is, so is that of a node at which no equation of the tree covers an inherited attribute
      uncovered_within : (most n : ℕ) (c : ClassId) → n ≤ most → class_in tree n ≡ Some c → site_within p tree name a xs root n ≡ None → IsUncovered c
      uncovered_within most zero c l of none = top c of
      uncovered_within zero (suc m) c l of none = absurd (omega (arith, l))
      uncovered_within (suc most) (suc m) c l of none =
          let x = some_of (λ (y : TreeNode). y.class) (slice_get tree (suc m)) c of in
          let u = x.0.parent in
          let up : parent_in tree (suc m) ≡ Some u = ap (option_map (λ (y : TreeNode). y.parent)) x.1 in
          let at : component_in tree (suc m) ≡ Some x.0.component = ap (option_map (λ (y : TreeNode). y.component)) x.1 in
          let hung = placed m x.0 x.1 in
          let smaller = low (suc m) u up in
          let both = or_nothing (covering_site p tree name a xs root (suc m)) (site_within p tree name a xs root u) (sym (within_step p tree name a xs root low (suc m) u up) ∙ none) in
          let higher = uncovered_within most u hung.parent (omega (arith, l, smaller)) hung.of both.1 in
          let bare = covering_none p tree name a xs root (suc m) u x.0.component hung.parent up (named u ∙ hung.of) at both.0 in
          subst IsUncovered x.2 (below x.0.component hung.component higher hung.has hung.shape bare hung.concrete hung.below)

    -- so is that of each node at which an inherited attribute has no equation
    uncovered : (n : NodeName) (c : ClassId) → IsNode p n → class_at p n ≡ Some c → inherited_site p a xs root n ≡ None → IsUncovered c
    uncovered (Source k) c there of none =
        let top : (b : ClassId) → class_in p.tree 0 ≡ Some b → IsUncovered b = λ b is. at_root (node_concrete p.grammar (length p.texts) p.tree good.tree 0 b is) (root_below p.grammar (length p.texts) p.tree good.tree b is) in
        uncovered_within p.tree Source (falls p good) (node_placed p.grammar (length p.texts) p.tree good.tree) (λ n. refl) top k k c (omega arith) of none
    uncovered (Made b Null ys q) c there of none = absurd there.3
    uncovered (Made b (At m) ys q) c there of none =
        let tree = tree_made p b (At m) in
        let both =
        or_nothing (site_within p tree (Made b (At m) ys) a xs root q) (inherited_over p a xs root b ys (At m))
        (sym (ap (λ (o : Option ClassId). where_made o (option_or (site_within p tree (Made b (At m) ys) a xs root q) (inherited_over p a xs root b ys (At m))) None) of) ∙ none)
        in
        let over = or_nothing (site_at_owner p a xs root b ys m) (inherited_site p a xs root m) both.1 in
        let stands = there.3.1 in
        let given = map argument_value (list_of ys) in
        let found = map_nothing (λ (x : Equation). site_above p a xs root m (bound_values x.target.reach 0 given) x) (option_and_then (covering_by p a (by_created b)) (class_at p m)) over.0 in
        let bare = covered_none p a stands.0 (by_created b) (sym (ap (option_and_then (covering_by p a (by_created b))) stands.1) ∙ found) in
        let higher = uncovered m stands.0 there.3.0 stands.1 over.1 in
        let made = made_root p good b m ys q stands.0 there stands.1 in
        let here : IsUncovered made.0 = created b there.0 made.0 higher there.1 there.2 stands.2 made.2 (concrete_within p.grammar made.0.0 made.3) bare in
        let top : (t : ClassId) → class_in tree 0 ≡ Some t → IsUncovered t = λ t is. let one : made.0 ≡ t = let e = made.1 in cc in subst IsUncovered one here in
        uncovered_within tree (Made b (At m) ys) (made_falls p b (At m)) (made_placed p good b (At m) ys q there) (λ n. refl) top q q c (omega arith) of both.0

    is_some_where : (o : Option Site) → (o ≡ None → ⊥) → IsSome o
    is_some_where None h = absurd (h refl)
    is_some_where (Some s) h = refl

    -- an inherited attribute has an equation at each node whose class has the attribute
    pub inherited_there : (n : NodeName) (c : ClassId) (d : Attr) → IsNode p n → class_at p n ≡ Some c → attribute_at p.rules a ≡ Some d → is_inherited d.sort ≡ true → is_sub p.grammar c.0 d.class.0 ≡ true → IsSome (inherited_site p a xs root n)
    inherited_there n c d there of declared is b =
        let class = node_class p good n there in
        let one : class.0 ≡ c = let e = class.1 in cc in
        is_some_where (inherited_site p a xs root n) (λ none. good.rules.covered c a d declared is (subst (λ (x : ClassId). IsConcrete p.grammar x.0) one class.2) b (uncovered n c there of none))
