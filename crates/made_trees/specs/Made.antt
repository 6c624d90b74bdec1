-- What codes stand for where some instances made trees, in this order: the tree of the t-th of them has the codes from 65,537 + 16 t on.
use Rattle.std.specs.Prelude.{◌≡◌, ◌<◌, ◌≤◌, ◌^◌, ◌+◌, ◌-◌, ◌*◌, ◌/◌, ◌%◌, ℕ, suc, Bool, cond, ◌&&◌, nat_lt, ◌==◌, List, [], ◌∷◌, ◌++◌, Option, Some, None, length}
use Rattle.attr_rules.specs.declared.kinds.Kind.{Kind}
use Rattle.attr_rules.specs.declared.kinds.Kind.TheVariants as kinds
use Rattle.tree_arena.specs.Nodes.{most_nodes}
use Rattle.equation_law.specs.declared.coding.Args.{Args}
use Rattle.equation_law.specs.declared.coding.Instance.{Instance as CodedInstance}
use Rattle.equation_law.specs.declared.coding.Instance.TheVariants as coded
use Rattle.equation_law.specs.Codes.{IsCoded, Naming, codes_in, instance_by, most_made}
use Rattle.equation_law.specs.Names.{Attribute, Instance, Made, NodeName, Query, Source, row_of}
use Rattle.equation_law.specs.Program.{Program, attribute_parameters, text_of}

-- the node at a position of the tree that an instance makes; a query makes none, and counts as a source node past all trees
abbrev pub node_of : Instance → ℕ → ℕ → NodeName
node_of (Attribute a r xs) q k = Made a r (row_of xs) q
node_of (Query n) q k = Source k

-- the code that stands at k is one of those of tree t
abbrev pub is_of_tree : ℕ → ℕ → Bool
is_of_tree t k = nat_lt most_nodes (suc k) && (((k - most_nodes) / most_made) == t)

-- The naming by makers, the last one first: each was named by the ones before it.
abbrev pub node_by_makers : Program → List CodedInstance → ℕ → NodeName
node_by_makers p [] k = Source k
node_by_makers p (m ∷ before) k =
    cond (is_of_tree (length before) k) (node_of (instance_by p (record { text = text_of p; node = node_by_makers p before }) m) ((k - most_nodes) % most_made) k) (node_by_makers p before k)

abbrev pub naming_by_makers : Program → List CodedInstance → Naming
naming_by_makers p ms = record { text = text_of p; node = node_by_makers p ms }

-- so many codes stand for null, source nodes and nodes of the first trees: those up to this one
abbrev pub last_code : ℕ → ℕ
last_code trees = most_nodes + most_made * trees

-- these makers, and then more
abbrev pub Follow : List CodedInstance → List CodedInstance → Type 0
Follow before after = (more : List CodedInstance) × (after ≡ more ++ before)

-- the maker of the tree t; the list has the last one first
abbrev pub maker_at : List CodedInstance → ℕ → Option CodedInstance
maker_at [] t = None
maker_at (m ∷ before) t = cond (length before == t) (Some m) (maker_at before t)

-- a code of a type of nodes is at most this one
abbrev pub IsNamed : ℕ → Kind → ℕ → Type 0
IsNamed last kinds.Truth c = Unit {0}
IsNamed last kinds.Int c = Unit {0}
IsNamed last kinds.Text c = Unit {0}
IsNamed last (kinds.Node d) c = c ≤ last
IsNamed last kinds.Texts c = Unit {0}
IsNamed last (kinds.Nodes d) c = Unit {0}

abbrev pub AreNamed : ℕ → List Kind → List ℕ → Type 0
AreNamed last [] cs = Unit {0}
AreNamed last (k ∷ ks) [] = Unit {0}
AreNamed last (k ∷ ks) (c ∷ cs) = IsNamed last k c × AreNamed last ks cs

-- An attribute at a node with arguments may make a tree behind so many others: it is coded well, has as many arguments as parameters, and its nodes
-- are null, source nodes and nodes of those trees.
pub record MayMake (p : Program) (trees : ℕ) (a n : ℕ) (xs : Args) : Type 0 where
  pub all : length (codes_in xs) ≡ length (attribute_parameters p a)
  pub owner : n ≤ last_code trees
  pub arguments : AreNamed (last_code trees) (attribute_parameters p a) (codes_in xs)

abbrev pub CanMake : Program → ℕ → CodedInstance → Type 0
CanMake p trees (coded.Attr a n xs) = MayMake p trees a.0 n.0 xs
CanMake p trees (coded.Query q) = ⊥

-- Makers, the last one first: each could make a tree behind those of the ones before it, and is none of them. There are codes for all.
abbrev pub AreMakers : Program → List CodedInstance → Type 0
AreMakers p [] = Unit {0}
AreMakers p (m ∷ before) = IsCoded p m × CanMake p (length before) m × ((t : ℕ) → maker_at before t ≡ Some m → ⊥) × (last_code (suc (length before)) < 2 ^ 32) × AreMakers p before
