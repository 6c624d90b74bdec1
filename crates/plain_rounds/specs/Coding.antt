-- Codes of what a program has, by the makers so far, and of what the makers behind give the same meaning.
use Rattle.std.specs.Prelude.{◌≡◌, ◌≤◌, ℕ, List, [], ◌∷◌, ◌++◌, Some, All, length, map}
use Rattle.ast_grammar.specs.declared.grammar.ClassId.{ClassId}
use Rattle.attr_rules.specs.declared.kinds.Kind.{Kind}
use Rattle.equation_law.specs.declared.coding.Args.{Args}
use Rattle.equation_law.specs.declared.coding.Instance.{Instance as CodedInstance}
use Rattle.equation_law.specs.declared.coding.Instance.TheVariants as coded
use Rattle.equation_law.specs.Checked.{AreArguments, IsNodeOf, IsValue}
use Rattle.equation_law.specs.Codes.{IsCode, IsCoded, IsRow, codes_in, instance_by, reference_by, value_coded}
use Rattle.equation_law.specs.Created.{Making}
use Rattle.equation_law.specs.Names.{Argument, Instance, Reference}
use Rattle.equation_law.specs.Program.{Program}
use Rattle.equation_law.specs.Values.{argument_value, as_argument}
use Rattle.made_trees.specs.Made.{IsNamed, MayMake, last_code, maker_at, naming_by_makers, node_by_makers}
use Rattle.made_trees.specs.Makers.{making_for}
use Rattle.plain_rounds.specs.Trees.{HaveNumbers}

-- null or a node of the program, an argument of some type, and arguments of some types
abbrev pub IsSomeNode : Program → Reference → Type 0
IsSomeNode p r = (c : ClassId) × IsNodeOf p c r

abbrev pub IsSomeArgument : Program → Argument → Type 0
IsSomeArgument p x = (k : Kind) × IsValue p k (argument_value x)

abbrev pub AreSomeArguments : Program → List Argument → Type 0
AreSomeArguments p xs = (ks : List Kind) × AreArguments p ks xs

-- the code of a node; further makers give it the same meaning
abbrev pub IsNodeCoded : Program → List CodedInstance → Reference → ℕ → Type 0
IsNodeCoded p ms r c = (reference_by (node_by_makers p ms) c ≡ r) × (c ≤ last_code (length ms))

-- that of an argument of a type
pub record IsCodedAs (p : Program) (ms : List CodedInstance) (k : Kind) (x : Argument) (c : ℕ) : Type 0 where
  pub code : IsCode p k c
  pub named : IsNamed (last_code (length ms)) k c
  pub is : as_argument k (value_coded (naming_by_makers p ms) k c) ≡ x

abbrev pub IsArgumentCoded : Program → List CodedInstance → Argument → ℕ → Type 0
IsArgumentCoded p ms x c = (k : Kind) → IsValue p k (argument_value x) → IsCodedAs p ms k x c

-- those of arguments, one for each
abbrev pub AreEachCoded : Program → List CodedInstance → List Argument → List ℕ → Type 0
AreEachCoded p ms [] [] = Unit {0}
AreEachCoded p ms [] (c ∷ cs) = ⊥
AreEachCoded p ms (x ∷ xs) [] = ⊥
AreEachCoded p ms (x ∷ xs) (c ∷ cs) = IsArgumentCoded p ms x c × AreEachCoded p ms xs cs

abbrev pub AreArgumentsCoded : Program → List CodedInstance → List Argument → Args → Type 0
AreArgumentsCoded p ms xs r = IsRow r × AreEachCoded p ms xs (codes_in r)

-- that of an instance, which may make a tree behind these makers if it is of an attribute
abbrev pub IsNamedBy : Program → ℕ → CodedInstance → Type 0
IsNamedBy p trees (coded.Attr a n xs) = MayMake p trees a.0 n.0 xs
IsNamedBy p trees (coded.Query q) = Unit {0}

pub record IsInstanceCoded (p : Program) (ms : List CodedInstance) (x : Instance) (i : CodedInstance) : Type 0 where
  pub coded : IsCoded p i
  pub named : IsNamedBy p (length ms) i
  pub is : instance_by p (naming_by_makers p ms) i ≡ x

-- the same, and an instance that makes a tree is one of the makers
pub record IsNameCoded (p : Program) (ms : List CodedInstance) (x : Instance) (i : CodedInstance) : Type 0 where
  pub instance : IsInstanceCoded p ms x i
  pub number : (m : Making) → making_for p x ≡ Some m → (t : ℕ) × (maker_at ms t ≡ Some i)

-- those of some instances
pub record AreNamesCoded (p : Program) (ms : List CodedInstance) (xs : List Instance) (is : List CodedInstance) : Type 0 where
  pub coded : All (IsCoded p) is
  pub instances : map (instance_by p (naming_by_makers p ms)) is ≡ xs
  pub numbers : HaveNumbers p (naming_by_makers p ms) ms is
