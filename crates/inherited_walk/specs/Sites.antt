-- Equations that are found, by their numbers, with where they are read.
use Rattle.std.specs.Prelude.{◌≡◌, ◌≤◌, ℕ, pos, List, [], ◌++◌, map, Option, Some, None, slice_get}
use Rattle.std.specs.Int.{int_wrap}
use mir.Syntax.{w32}
use Rattle.attr_rules.specs.declared.dispatch.Reach.{Reach}
use Rattle.attr_rules.specs.declared.dispatch.Reach.TheVariants.{Own, Component, Created, Children}
use Rattle.attr_rules.specs.declared.kinds.AttrId.{AttrId}
use Rattle.attr_rules.specs.Rules.{Equation, body_at}
use Rattle.tree_arena.specs.Nodes.{most_nodes}
use Rattle.equation_law.specs.declared.coding.Args.{Args}
use Rattle.equation_law.specs.declared.coding.EqSite.{EqSite}
use Rattle.equation_law.specs.declared.coding.Instance.TheVariants.{Attr as attribute_at}
use Rattle.equation_law.specs.declared.coding.NodeRef.{NodeRef}
use Rattle.equation_law.specs.Codes.{ByEachNaming, Naming, arguments_for, codes_in, instance_by, reference_by}
use Rattle.equation_law.specs.Equations.{Site, covering_site, site_of}
use Rattle.equation_law.specs.Meaning.{Place}
use Rattle.equation_law.specs.Names.{Argument, Reference, Source}
use Rattle.equation_law.specs.Program.{Program, attribute_parameters}
use Rattle.equation_law.specs.Reading.{AreKnownCodes, ByEachIn, Told}
use Rattle.equation_law.specs.Values.{Value, Int, argument_value}

-- what a path binds: places in lists, which have 32 bits
abbrev pub index_values : Args → List Value
index_values xs = map (λ c. Int (int_wrap w32 (pos c))) (codes_in xs)

-- by the path: over a component it is such a place, and over a higher-order attribute its arguments, of which its parameters say what they stand for
abbrev pub outer_values : Program → Naming → Reach → Args → List Value
outer_values p n Own xs = []
outer_values p n (Component k) xs = index_values xs
outer_values p n (Created b) xs = map argument_value (arguments_for p n b.0 xs)
outer_values p n Children xs = []

-- an equation that isn't there has no path
abbrev pub reach_or_own : Option Equation → Reach
reach_or_own None = Own
reach_or_own (Some q) = q.target.reach

abbrev pub reach_at : Program → ℕ → Reach
reach_at p e = reach_or_own (slice_get p.rules.equations e)

-- where the equation of a site is read for an attribute, whose parameters say what its codes stand for by a naming
abbrev pub site_place : Program → Naming → ℕ → EqSite → Place
site_place p n a s = record { this = reference_by n.node s.node.0; names = map argument_value (arguments_for p n a s.inner) ++ outer_values p n (reach_at p s.equation.0) s.outer }

-- an equation by its number, with where it is read
pub record IsSite (p : Program) (n : Naming) (a : ℕ) (s : EqSite) (site : Site) : Type 0 where
  pub body : body_at p.rules s.equation.0 ≡ Some site.body
  pub place : site.place ≡ site_place p n a s

-- a reader knows the codes of the arguments that a path over a higher-order attribute binds
abbrev pub KnowsBound : {S : Type 0} → Program → Told S → Reach → Args → Type 0
KnowsBound p t Own xs = Unit {0}
KnowsBound p t (Component k) xs = Unit {0}
KnowsBound p t (Created b) xs = AreKnownCodes t (attribute_parameters p b.0) (codes_in xs)
KnowsBound p t Children xs = Unit {0}

-- it knows where the equation of a site is read for an attribute: the node, the arguments, and what the path binds
pub record KnowsSite {S : Type 0} (p : Program) (t : Told S) (a : ℕ) (s : EqSite) : Type 0 where
  pub node : t.knows s.node.0
  pub inner : AreKnownCodes t (attribute_parameters p a) (codes_in s.inner)
  pub outer : KnowsBound p t (reach_at p s.equation.0) s.outer

-- a path over a higher-order attribute binds nothing
abbrev pub BindsNoCode : Reach → Args → Type 0
BindsNoCode Own xs = Unit {0}
BindsNoCode (Component k) xs = Unit {0}
BindsNoCode (Created b) xs = codes_in xs ≡ []
BindsNoCode Children xs = Unit {0}

-- a site at a source node with these arguments, of which the path binds no argument of another attribute
pub record IsSourceSite (p : Program) (xs : Args) (s : EqSite) : Type 0 where
  pub node : s.node.0 ≤ most_nodes
  pub inner : s.inner ≡ xs
  pub outer : BindsNoCode (reach_at p s.equation.0) s.outer

-- it is found exactly where there is one
abbrev pub IsFound : Program → Naming → ℕ → Option Site → Option EqSite → Type 0
IsFound p n a o None = o ≡ None
IsFound p n a o (Some s) = (site : Site) × (o ≡ Some site) × IsSite p n a s site

-- for an attribute with arguments, by each naming
abbrev pub IsFoundFor : Program → AttrId → Args → (List Argument → Option Site) → Option EqSite → Type 0
IsFoundFor p a xs site found = ByEachNaming p (λ n. IsFound p n a.0 (site (arguments_for p n a.0 xs)) found)

-- what covers the way to a source node from its parent, whatever the root is
abbrev pub IsCoveringFor : Program → AttrId → Args → ℕ → Option EqSite → Type 0
IsCoveringFor p a xs n found = (root : Reference) → IsFoundFor p a xs (λ zs. covering_site p p.tree Source a.0 zs root n) found

-- nothing does
abbrev pub IsUncovered : Program → AttrId → ℕ → Type 0
IsUncovered p a n = (zs : List Argument) (root : Reference) → covering_site p p.tree Source a.0 zs root n ≡ None

-- What is found is the equation of an attribute at a node with arguments, whatever the node's code stands for.
abbrev pub FindsEquation : Program → AttrId → NodeRef → Args → Option EqSite → Type 0
FindsEquation p a m xs found = ByEachNaming p (λ n. IsFound p n a.0 (site_of p (instance_by p n (attribute_at a m xs))) found)

-- the same by each naming by which a reader may be read
abbrev pub FindsIn : {S : Type 0} → Program → Told S → AttrId → NodeRef → Args → Option EqSite → Type 0
FindsIn p s a m xs found = ByEachIn s (λ n. IsFound p n a.0 (site_of p (instance_by p n (attribute_at a m xs))) found)
