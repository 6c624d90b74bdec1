-- The trees that instances make.
use Rattle.std.specs.Prelude.{◌≡◌, ℕ, List, Some, slice_get}
use Rattle.equation_law.specs.declared.coding.Instance.{Instance as CodedInstance}
use Rattle.equation_law.specs.Codes.{Naming, instance_by}
use Rattle.equation_law.specs.Created.{Making, token_kinds}
use Rattle.equation_law.specs.Names.{Argument, Instance, Reference, made_by}
use Rattle.equation_law.specs.Program.{Program}
use Rattle.equation_law.specs.Reading.{AreTokensOf}
use Rattle.equation_law.specs.Values.{Value, Truth, Int, Text, Node, Texts, Nodes, Tree}
use Rattle.made_trees.specs.Made.{maker_at}
use Rattle.made_trees.specs.Makers.{making_for}

-- a tree that an instance makes: its root is that of the instance's tree, and its tokens are of the types that the `new` says
pub record IsOwnTree (p : Program) (i : Instance) (r : Reference) (ts : List Argument) : Type 0 where
  pub making : Making
  pub makes : making_for p i ≡ Some making
  pub root : r ≡ made_by i 0
  pub tokens : AreTokensOf (token_kinds making.arguments) ts

-- a value of an instance, if it is a tree, is one that the instance makes
abbrev pub IsOwn : Program → Instance → Value → Type 0
IsOwn p i (Truth b) = Unit {0}
IsOwn p i (Int z) = Unit {0}
IsOwn p i (Text t) = Unit {0}
IsOwn p i (Node n) = Unit {0}
IsOwn p i (Texts s) = Unit {0}
IsOwn p i (Nodes s) = Unit {0}
IsOwn p i (Tree r ts) = IsOwnTree p i r ts

-- each of some instances that makes a tree is among the makers
abbrev pub HaveNumbers : Program → Naming → List CodedInstance → List CodedInstance → Type 0
HaveNumbers p n makers names = (k : ℕ) (i : CodedInstance) → slice_get names k ≡ Some i → (m : Making) → making_for p (instance_by p n i) ≡ Some m → (t : ℕ) × (maker_at makers t ≡ Some i)
