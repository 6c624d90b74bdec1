-- What is found on the way upwards from nodes, with a reader that knows the trees that were made.
use Rattle.std.specs.Prelude.{◌≡◌, ◌<◌, ℕ, Bool, true, false, List, [], map, Option, Some, None, IfSome, IsSome, slice_get}
use Rattle.std.specs.Option.{option_or}
use Rattle.ast_grammar.specs.declared.grammar.ClassId.{ClassId}
use Rattle.attr_rules.specs.declared.dispatch.Reach.{Reach}
use Rattle.attr_rules.specs.declared.dispatch.Reach.TheVariants.{Own, Component, Created, Children}
use Rattle.attr_rules.specs.declared.dispatch.Via.{Via}
use Rattle.attr_rules.specs.declared.kinds.AttrId.{AttrId}
use Rattle.attr_rules.specs.Rules.{Equation}
use Rattle.equation_law.specs.declared.coding.Args.{Args}
use Rattle.equation_law.specs.declared.coding.EqSite.{EqSite}
use Rattle.equation_law.specs.declared.coding.NodeRef.{NodeRef}
use Rattle.equation_law.specs.Codes.{AreCodes, IsRow, arguments_for, codes_in, reference_by}
use Rattle.equation_law.specs.Equations.{Site, bound_values, covering_by, inherited_site}
use Rattle.equation_law.specs.Names.{Argument, At, Made, Null, Reference, Row, list_of}
use Rattle.equation_law.specs.Program.{Program, attribute_parameters, class_at}
use Rattle.equation_law.specs.Reading.{AreKnownCodes, ByEachIn, Grows, Told, class_behind}
use Rattle.inherited_walk.specs.declared.climb.Higher.{Higher}
use Rattle.equation_law.specs.Values.{argument_value}
use Rattle.inherited_walk.specs.Sites.{FindsIn, IsFound, KnowsBound, KnowsSite, outer_values}

-- the class of a node, by each naming
pub record IsClassAt {S : Type 0} (p : Program) (r s : Told S) (m : NodeRef) (result : Option ClassId) : Type 0 where
  pub kept : Grows p r s
  pub class : ByEachIn s (λ n. result ≡ class_behind p (reference_by n.node m.0))

-- the arguments with which an attribute made a node, where there is such a node; the reader knows the nodes among them
pub record GivesArguments {S : Type 0} (p : Program) (r s : Told S) (maker : AttrId) (m : NodeRef) (result : Args) : Type 0 where
  pub kept : Grows p r s
  pub row : IsRow result
  pub are : ByEachIn s (λ n. (o : Reference) (xs : Row) (q : ℕ) → reference_by n.node m.0 ≡ At (Made maker.0 o xs q) → IsSome (class_at p (Made maker.0 o xs q))
      → AreCodes p (attribute_parameters p maker.0) (codes_in result) × (arguments_for p n maker.0 result ≡ list_of xs))
  pub known : ByEachIn s (λ n. (o : Reference) (xs : Row) (q : ℕ) → reference_by n.node m.0 ≡ At (Made maker.0 o xs q) → IsSome (class_at p (Made maker.0 o xs q))
      → AreKnownCodes s (attribute_parameters p maker.0) (codes_in result))

-- the path is over a higher-order attribute
abbrev pub is_over_attribute : Reach → Bool
is_over_attribute Own = false
is_over_attribute (Component k) = false
is_over_attribute (Created b) = true
is_over_attribute Children = false

-- what a path of an equation binds towards a node that was made: over a component 0, and over the attribute that made the node its arguments,
-- of which the reader knows the nodes
pub record BindsBy {S : Type 0} (p : Program) (r s : Told S) (reach : Reach) (m : NodeRef) (result : Args) : Type 0 where
  pub kept : Grows p r s
  pub row : IsRow result
  pub inside : ByEachIn s (λ n. is_over_attribute reach ≡ false → outer_values p n reach result ≡ bound_values reach 0 [])
  pub arguments : ByEachIn s (λ n. (b : AttrId) (o : Reference) (xs : Row) (q : ℕ) → reach ≡ Created b → reference_by n.node m.0 ≡ At (Made b.0 o xs q) → IsSome (class_at p (Made b.0 o xs q)) → outer_values p n reach result ≡ map argument_value (list_of xs))
  pub known : ByEachIn s (λ n. (b : AttrId) (o : Reference) (xs : Row) (q : ℕ) → reach ≡ Created b → reference_by n.node m.0 ≡ At (Made b.0 o xs q) → IsSome (class_at p (Made b.0 o xs q)) → KnowsBound p s reach result)

-- The equation of a class that covers what hangs by something, read at a node above: with what its path binds where the node below hangs by that.
pub record CoversBy {S : Type 0} (p : Program) (r s : Told S) (a : AttrId) (xs : Args) (class : ClassId) (via : Via) (above m : NodeRef) (result : Option EqSite) : Type 0 where
  pub kept : Grows p r s
  pub none : result ≡ None → covering_by p a.0 via class ≡ None
  pub some : (e : EqSite) → result ≡ Some e → (q : Equation) × (covering_by p a.0 via class ≡ Some q) × (slice_get p.rules.equations e.equation.0 ≡ Some q) × (e.node ≡ above) × (e.inner ≡ xs) × BindsBy p r s q.target.reach m e.outer

-- null inherits nothing
abbrev pub inherited_at : Program → ℕ → List Argument → Reference → Reference → Option Site
inherited_at p a zs root Null = None
inherited_at p a zs root (At m) = inherited_site p a zs root m

-- The node above one that was made, at which an inherited attribute has the same equation, unless one covers the node there. The reader knows that
-- node, and where it knows the arguments the site of the equation that covers it.
pub record IsHigherBy {S : Type 0} (p : Program) (r s : Told S) (a : AttrId) (m : NodeRef) (xs : Args) (result : Higher) : Type 0 where
  pub kept : Grows p r s
  pub falls : s.height result.node.0 < r.height m.0
  pub above : s.knows result.node.0
  pub known : ByEachIn s (λ n. IsSome (class_behind p (reference_by n.node m.0)) → AreKnownCodes s (attribute_parameters p a.0) (codes_in xs) → IfSome result.site (KnowsSite p s a.0))
  pub found : ByEachIn s (λ n. IsSome (class_behind p (reference_by n.node m.0)) → (zs : List Argument) (root : Reference) → (x : Option Site)
      × (inherited_at p a.0 zs root (reference_by n.node m.0) ≡ option_or x (inherited_at p a.0 zs root (reference_by n.node result.node.0))) × (zs ≡ arguments_for p n a.0 xs → IsFound p n a.0 x result.site))

-- the equation of an inherited attribute at a node, for an instance that makes a tree with any root
pub record InheritsBy {S : Type 0} (p : Program) (r s : Told S) (a : AttrId) (m : NodeRef) (xs : Args) (result : Option EqSite) : Type 0 where
  pub kept : Grows p r s
  pub found : ByEachIn s (λ n. (root : Reference) → IsFound p n a.0 (inherited_at p a.0 (arguments_for p n a.0 xs) root (reference_by n.node m.0)) result)

-- the equation of an attribute at a node with arguments
pub record FindsBy {S : Type 0} (p : Program) (r s : Told S) (a : AttrId) (m : NodeRef) (xs : Args) (result : Option EqSite) : Type 0 where
  pub kept : Grows p r s
  pub found : FindsIn p s a m xs result
