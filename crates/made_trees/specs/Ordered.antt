-- The order of nodes by what made them, part by part.
use Rattle.std.specs.Prelude.{◌≡◌, ◌<◌, ◌≤◌, ℕ, List, [], Option, Some, None, length}
use Rattle.std.specs.Cmp.Lexicographic.{slice_cmp}
use Rattle.std.specs.Ordering.{nat_cmp, ordering_then}
use Rattle.std.specs.declared.cmp.Ordering.{Ordering}
use Rattle.attr_rules.specs.declared.kinds.Kind.{Kind}
use Rattle.equation_law.specs.declared.coding.Args.{Args}
use Rattle.equation_law.specs.Codes.{AreCodes, IsNamingOf, IsRow, Naming, arguments_by, arguments_for, codes_in, reference_by, reference_of, value_coded}
use Rattle.equation_law.specs.Names.{Argument, At, Made, NodeName, argument_code, arguments_code, node_cmp, row_of}
use Rattle.equation_law.specs.Program.{Program, attribute_parameters}
use Rattle.equation_law.specs.Reading.{reference_cmp}
use Rattle.equation_law.specs.Values.{as_argument}
use Rattle.made_trees.specs.declared.order.Comparison.{Comparison}
use Rattle.made_trees.specs.declared.order.Comparison.TheVariants as comparison
use Rattle.made_trees.specs.declared.order.Creation.{Creation}
use Rattle.made_trees.specs.Made.{AreNamed, IsNamed}
use Rattle.made_trees.specs.Makers.{Trees, naming_of, program_for, stands_for}

-- arguments are in the order of their writings
abbrev pub argument_cmp : Argument → Argument → Ordering
argument_cmp x y = slice_cmp nat_cmp (argument_code x []) (argument_code y [])

abbrev pub arguments_cmp : List Argument → List Argument → Ordering
arguments_cmp xs ys = slice_cmp nat_cmp (arguments_code xs []) (arguments_code ys [])

-- arguments that are coded well, one for each of the parameters of these types
pub record AreWhole (p : Program) (ks : List Kind) (xs : Args) : Type 0 where
  pub row : IsRow xs
  pub codes : AreCodes p ks (codes_in xs)
  pub all : length (codes_in xs) ≡ length ks

-- what is made so has this name
abbrev pub name_by : Program → Naming → Creation → NodeName
name_by p n m = Made m.attr.0 (reference_by n.node m.owner.0) (row_of (arguments_for p n m.attr.0 m.args)) m.position

-- each node in it has a smaller code than this one
pub record IsBehind (p : Program) (c : ℕ) (m : Creation) : Type 0 where
  pub last : ℕ
  pub owner : m.owner.0 ≤ last
  pub arguments : AreNamed last (attribute_parameters p m.attr.0) (codes_in m.args)
  pub falls : last < c

-- what made a node
pub record IsCreatedBy (T : Trees) (c : ℕ) (m : Creation) : Type 0 where
  pub name : stands_for T c ≡ At (name_by (program_for T) (naming_of T) m)
  pub whole : AreWhole (program_for T) (attribute_parameters (program_for T) m.attr.0) m.args
  pub behind : IsBehind (program_for T) c m

-- the same, or that it is a source node or null
abbrev pub IsCreation : Trees → ℕ → Option Creation → Type 0
IsCreation T c None = stands_for T c ≡ reference_of c
IsCreation T c (Some m) = IsCreatedBy T c m

-- it is this order, or that of two nodes, of which the first has a smaller code than this one
abbrev pub LeadsTo : Naming → ℕ → Ordering → Comparison → Type 0
LeadsTo n c o (comparison.Decided r) = r ≡ o
LeadsTo n c o (comparison.Between x y) = (reference_cmp (reference_by n.node x.0) (reference_by n.node y.0) ≡ o) × (x.0 < c)

-- by each naming, and below each code behind which the nodes in the first stand, it is the order of two nodes by what made them
abbrev pub IsOrderOfNodes : Program → Creation → Creation → Comparison → Type 0
IsOrderOfNodes p x y r = (n : Naming) (c : ℕ) → IsNamingOf p n → IsBehind p c x → LeadsTo n c (node_cmp (name_by p n x) (name_by p n y)) r

-- that of two rows of arguments for these parameters, and where they are alike this one
abbrev pub IsOrderOfRows : Program → List Kind → Args → Args → Ordering → Comparison → Type 0
IsOrderOfRows p ks xs ys behind r =
    (n : Naming) (c last : ℕ) → IsNamingOf p n → AreNamed last ks (codes_in xs) → last < c → LeadsTo n c (ordering_then (arguments_cmp (arguments_by n ks (codes_in xs)) (arguments_by n ks (codes_in ys))) behind) r

-- that of two arguments of this type
abbrev pub IsOrderOfCodes : Program → Kind → ℕ → ℕ → Comparison → Type 0
IsOrderOfCodes p k x y r = (n : Naming) (c last : ℕ) → IsNamingOf p n → IsNamed last k x → last < c → LeadsTo n c (argument_cmp (as_argument k (value_coded n k x)) (as_argument k (value_coded n k y))) r
