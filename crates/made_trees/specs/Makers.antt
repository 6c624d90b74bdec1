-- The makers that are kept, and what is told of the nodes of their trees.
use Rattle.std.specs.Prelude.{◌≡◌, ◌<◌, ◌≤◌, ◌+◌, ◌*◌, ◌⊎◌, ◌++◌, cond, ℕ, suc, List, [], ◌∷◌, Option, Some, None, IsSome, MatchOption, length, map, reverse, slice_get}
use Rattle.std.specs.HashMap.{HashMap, get}
use Rattle.std.specs.Option.{option_and_then, option_map}
use Rattle.attr_rules.specs.declared.kinds.EqId.{EqId}
use Rattle.attr_rules.specs.declared.kinds.AttrId.{AttrId}
use Rattle.attr_rules.specs.declared.kinds.Kind.{Kind}
use Rattle.attr_rules.specs.Rules.{Equation}
use Rattle.tree_arena.specs.Nodes.{most_nodes}
use Rattle.equation_law.specs.declared.coding.Instance.{Instance as CodedInstance}
use Rattle.equation_law.specs.declared.coding.Args.{Args}
use Rattle.equation_law.specs.declared.coding.NodeRef.{NodeRef}
use Rattle.equation_law.specs.declared.coding.Up.{Up}
use Rattle.equation_law.specs.declared.coding.Up.TheVariants as up
use Rattle.equation_law.specs.declared.coding.Instance.TheVariants as coded
use Rattle.equation_law.specs.contracts.coding.InstancePartialEq.TheImpl as equality
use Rattle.equation_law.specs.declared.system.System.{System}
use Rattle.equation_law.specs.Checked.{TreesFit}
use Rattle.equation_law.specs.Codes.{IsCode, IsCoded, Naming, instance_by, most_made, reference_by, value_coded}
use Rattle.equation_law.specs.Created.{Making, making_in}
use Rattle.equation_law.specs.Equations.{token_place}
use Rattle.equation_law.specs.Names.{Argument, At, Attribute, Instance, Made, Query, Reference, Row, list_of, made_by}
use Rattle.equation_law.specs.Program.{Program, attribute_parameters, making_of}
use Rattle.equation_law.specs.Reading.{IsHigher, class_behind, higher_than}
use Rattle.equation_law.specs.Systems.{program_of}
use Rattle.equation_law.specs.Values.{as_argument}
use Rattle.made_trees.specs.declared.makers.Maker.{Maker}
use Rattle.made_trees.specs.declared.spots.Spot.{Spot}
use Rattle.made_trees.specs.declared.news.Stand.{Stand as FoundNode}
use Rattle.made_trees.specs.Made.{AreMakers, maker_at, naming_by_makers}
use Rattle.made_trees.specs.Stands.{IsSmall, stand_of, stands_or_none}

-- what made trees for a program, the last one first
pub record Trees : Type 0 where
  pub system : System
  pub makers : List CodedInstance

abbrev pub program_for : Trees → Program
program_for T = program_of T.system

abbrev pub naming_of : Trees → Naming
naming_of T = naming_by_makers (program_for T) T.makers

-- what a code stands for
abbrev pub stands_for : Trees → ℕ → Reference
stands_for T c = reference_by (naming_of T).node c

-- all that is made is no larger than it may be
abbrev pub AreSmall : Program → Type 0
AreSmall p = (a : ℕ) (r : Reference) (m : Making) → making_of p a r ≡ Some m → IsSmall m

-- the `new` that the equation of a number is, if it is one
abbrev pub making_by : Program → Option EqId → Option Making
making_by p None = None
making_by p (Some e) = option_and_then (λ (x : Equation). making_in x.body) (slice_get p.rules.equations e.0)

-- by which an instance makes a tree
abbrev pub making_for : Program → Instance → Option Making
making_for p (Attribute a r xs) = making_of p a r
making_for p (Query q) = None

abbrev pub IsEquationWithin : Program → Option EqId → Type 0
IsEquationWithin p None = Unit {0}
IsEquationWithin p (Some e) = e.0 < length p.rules.equations

-- the equation that is kept with a maker is the one by which it makes its tree
pub record KeepsMaking (p : Program) (n : Naming) (m : Maker) : Type 0 where
  pub making : making_for p (instance_by p n m.instance) ≡ making_by p m.equation
  pub within : IsEquationWithin p m.equation

abbrev pub instance_in : Maker → CodedInstance
instance_in m = m.instance

abbrev pub makers_in : List Maker → List CodedInstance
makers_in kept = reverse (map instance_in kept)

-- the number of an instance among makers, or None where it is none of them
abbrev pub IsNumberOf : List CodedInstance → CodedInstance → Option ℕ → Type 0
IsNumberOf ms i o = MatchOption o ((t : ℕ) → maker_at ms t ≡ Some i → ⊥) (λ t. maker_at ms t ≡ Some i)

pub record AreKept {S : Type 0} (p : Program) (kept : List Maker) (known : HashMap CodedInstance ℕ S) : Type 0 where
  pub makers : AreMakers p (makers_in kept)
  pub equations : (t : ℕ) (m : Maker) → slice_get kept t ≡ Some m → KeepsMaking p (naming_by_makers p (makers_in kept)) m
  pub numbers : (i : CodedInstance) → IsNumberOf (makers_in kept) i (get equality.ghosts.eq known i)
  pub small : AreSmall p
  pub fit : TreesFit p
  pub few : length p.tree ≤ most_nodes

-- where a code stands: a tree, and a position of it; None where it is none of the trees'
abbrev pub IsSpotOf : ℕ → ℕ → Option Spot → Type 0
IsSpotOf trees c None = (c ≤ most_nodes) ⊎ (most_nodes + most_made * trees < c)
IsSpotOf trees c (Some s) = (c ≡ suc (most_nodes + (most_made * s.tree + s.position))) × (s.position < most_made) × (s.tree < trees)

-- the node at a spot, if there is one
abbrev pub IsStandAt : Trees → Spot → Option FoundNode → Type 0
IsStandAt T s o = (x : CodedInstance) → maker_at T.makers s.tree ≡ Some x → slice_get (stands_or_none (making_for (program_for T) (instance_by (program_for T) (naming_of T) x))) s.position ≡ option_map stand_of o

-- what made a node, and the node's position; None where it isn't one that was made
abbrev pub IsMakerOf : Trees → ℕ → Option (CodedInstance × ℕ) → Type 0
IsMakerOf T c None = (a q : ℕ) (r : Reference) (xs : Row) → stands_for T c ≡ At (Made a r xs q) → ⊥
IsMakerOf T c (Some m) = IsCoded (program_for T) m.0 × (stands_for T c ≡ made_by (instance_by (program_for T) (naming_of T) m.0) m.1)

-- the code of an argument with which a node was made
abbrev pub IsArgumentAt : Trees → ℕ → ℕ → ℕ → Type 0
IsArgumentAt T c k result =
    (a q : ℕ) (o : Reference) (xs : Row) → stands_for T c ≡ At (Made a o xs q) → (t : Kind) (x : Argument) → slice_get (attribute_parameters (program_for T) a) k ≡ Some t → slice_get (list_of xs) k ≡ Some x
    → IsCode (program_for T) t result × (as_argument t (value_coded (naming_of T) t result) ≡ x)

-- the place of the token of a node at a component among all of the tree
abbrev pub IsTokenAt : Trees → ℕ → ℕ → Option ℕ → Type 0
IsTokenAt T c k result = (a q : ℕ) (o : Reference) (xs : Row) → stands_for T c ≡ At (Made a o xs q) → token_place (making_of (program_for T) a o) q k ≡ result

-- with a maker more, or as before
abbrev pub IsMore : List CodedInstance → CodedInstance → List CodedInstance → Type 0
IsMore before i after = (after ≡ before) ⊎ (after ≡ i ∷ before)

-- a maker more is kept with its number
pub record Keeps {S : Type 0} (kept : List Maker) (known : HashMap CodedInstance ℕ S) (m : Maker) (after : List Maker) (more : HashMap CodedInstance ℕ S) : Type 0 where
  pub items : after ≡ kept ++ m ∷ []
  pub numbers : (i : CodedInstance) → get equality.ghosts.eq more i ≡ cond (equality.ghosts.eq m.instance i) (Some (length kept)) (get equality.ghosts.eq known i)

-- all stays
pub record Stays {S : Type 0} (kept : List Maker) (known : HashMap CodedInstance ℕ S) (after : List Maker) (more : HashMap CodedInstance ℕ S) : Type 0 where
  pub items : after ≡ kept
  pub numbers : (i : CodedInstance) → get equality.ghosts.eq more i ≡ get equality.ghosts.eq known i

-- the owner of the tree of a maker
abbrev pub IsOwnerOf : Trees → ℕ → Up → Type 0
IsOwnerOf T t u = (a : AttrId) (n : NodeRef) (xs : Args) → maker_at T.makers t ≡ Some (coded.Attr a n xs) → u ≡ up.Owner n a

-- the code of the root of the tree of an instance, or None where it is no maker
abbrev pub IsRootOf : Trees → CodedInstance → Option NodeRef → Type 0
IsRootOf T i o = MatchOption o ((t : ℕ) → maker_at T.makers t ≡ Some i → ⊥) (λ r. stands_for T r.0 ≡ made_by (instance_by (program_for T) (naming_of T) i) 0)

-- the makers of the trees, how large all may be, and that what is made fits the grammar
pub record AreTrees (T : Trees) : Type 0 where
  pub makers : AreMakers (program_for T) T.makers
  pub small : AreSmall (program_for T)
  pub fit : TreesFit (program_for T)
  pub few : length (program_for T).tree ≤ most_nodes

-- the code of the child at a position of the tree of a spot
abbrev pub child_code : Spot → Option ℕ → ℕ
child_code s None = 0
child_code s (Some j) = suc (most_nodes + (most_made * s.tree + j))

-- where a node stands, what is told stands above it
abbrev pub IsAbove : Trees → ℕ → Up → Type 0
IsAbove T c u = IsSome (class_behind (program_for T) (stands_for T c)) → IsHigher (naming_of T) u (higher_than (program_for T) (stands_for T c))

-- the `new` of an equation is that by which an instance makes a tree
abbrev pub IsMakingOf : Trees → CodedInstance → Option EqId → Type 0
IsMakingOf T i e = making_for (program_for T) (instance_by (program_for T) (naming_of T) i) ≡ making_by (program_for T) e

-- the equation is the one by which the tree of this number was made
pub record IsEquationAt (T : Trees) (t : ℕ) (e : Option EqId) : Type 0 where
  pub within : IsEquationWithin (program_for T) e
  pub making : (x : CodedInstance) → maker_at T.makers t ≡ Some x → IsMakingOf T x e
