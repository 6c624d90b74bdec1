-- What codes stand for.
use Rattle.std.specs.Prelude.{ℕ, ◌≡◌, zero, suc, pos, ◌+◌, ◌*◌, ◌<◌, ◌≤◌, ◌^◌, not, ◌==◌, List, [], ◌∷◌, All, length, map, take}
use Rattle.std.specs.declared.cmp.Ordering.TheVariants.{Less}
use Rattle.std.specs.Int.{int_wrap}
use mir.Syntax.{w32}
use Rattle.attr_rules.specs.declared.kinds.Kind.{Kind}
use Rattle.attr_rules.specs.declared.kinds.Kind.TheVariants as kinds
use Rattle.equation_law.specs.declared.coding.Args.{Args}
use Rattle.equation_law.specs.declared.coding.Instance.{Instance as CodedInstance}
use Rattle.equation_law.specs.declared.coding.Instance.TheVariants as coded_instance
use Rattle.equation_law.specs.declared.coding.Value.{Value as CodedValue}
use Rattle.equation_law.specs.declared.coding.Value.TheVariants as coded
use Rattle.equation_law.specs.declared.coding.Single.{Single}
use Rattle.equation_law.specs.declared.coding.Single.TheVariants as single
use Rattle.tree_arena.specs.Nodes.{most_nodes}
use Rattle.equation_law.specs.Names.{Argument, At, Attribute, Instance, Made, NodeName, Null, Query, Reference, Row, Source, list_of, node_cmp}
use Rattle.equation_law.specs.Program.{Program, attribute_parameters, text_of}
use Rattle.equation_law.specs.Values.{Int, Node, Nodes, Text, Texts, Truth, Value, as_argument, default_of}
use Rattle.equation_law.specs.Sets.{set_of}

-- What numbers and codes stand for while a program runs: the text of each number, and the node of each code, of which the first has the code 1
-- and stands at 0 here. What nodes there are beside those of the source tree depends on what was made so far.
pub record Naming : Type 0 where
  pub text : ℕ → List ℕ
  pub node : ℕ → NodeName

-- a tree that is made has at most so many nodes, and so many codes
abbrev pub most_made : ℕ
most_made = 16

-- The code that stands at k is one of those of a tree, which come behind those of all source nodes: that of its node at position q. It is
-- followed by those of the nodes behind. The tree was made with as many arguments as the attribute has parameters.
pub record IsOfTree (p : Program) (n : Naming) (k a : ℕ) (r : Reference) (xs : Row) (q : ℕ) : Type 0 where
  pub tree : ℕ
  pub code : k ≡ most_nodes + (most_made * tree + q)
  pub few : q < most_made
  pub whole : (s : ℕ) → s < most_made → n.node (most_nodes + (most_made * tree + s)) ≡ Made a r xs s
  pub all : length (list_of xs) ≡ length (attribute_parameters p a)

-- A naming for a program: it has the program's texts, the source nodes come first, as many as a tree may have, and no two codes stand for one
-- node. The codes of the nodes of a tree that was made follow each other.
pub record IsNamingOf (p : Program) (n : Naming) : Type 0 where
  pub texts : n.text ≡ text_of p
  pub sources : (k : ℕ) → k < most_nodes → n.node k ≡ Source k
  pub trees : (k a : ℕ) (r : Reference) (xs : Row) (q : ℕ) → n.node k ≡ Made a r xs q → IsOfTree p n k a r xs q
  pub one_code : (j k : ℕ) → n.node j ≡ n.node k → j ≡ k

-- it holds by each naming for the program, whatever was made
abbrev pub ByEachNaming : Program → (Naming → Type 0) → Type 0
ByEachNaming p holds = (n : Naming) → IsNamingOf p n → holds n

-- the nodes of its codes rise in the order of names
abbrev pub IsInOrder : Naming → Type 0
IsInOrder n = (j k : ℕ) → j < k → node_cmp (n.node j) (n.node k) ≡ Less

-- the namings for the program whose codes are in the order of their nodes
abbrev pub NamesInOrder : Program → Naming → Type 0
NamesInOrder p n = IsNamingOf p n × IsInOrder n

-- it holds by each of these
abbrev pub ByEachOrder : Program → (Naming → Type 0) → Type 0
ByEachOrder p holds = (n : Naming) → IsNamingOf p n → IsInOrder n → holds n

-- these texts, and source nodes alone: the naming where nothing was made
abbrev pub source_names : (ℕ → List ℕ) → Naming
source_names texts = record { text = texts; node = Source }

-- 0 is null, and each other code stands for a node
abbrev pub reference_by : (ℕ → NodeName) → ℕ → Reference
reference_by nodes zero = Null
reference_by nodes (suc k) = At (nodes k)

-- the code c stands for r, whatever was made: it is tied to it
abbrev pub IsReference : Program → ℕ → Reference → Type 0
IsReference p c r = ByEachNaming p (λ n. reference_by n.node c ≡ r)

-- the nodes that some codes stand for; null is none
abbrev pub nodes_by : (ℕ → NodeName) → List ℕ → List NodeName
nodes_by nodes [] = []
nodes_by nodes (zero ∷ cs) = nodes_by nodes cs
nodes_by nodes (suc k ∷ cs) = nodes k ∷ nodes_by nodes cs

-- a value that is no set, by a naming
abbrev pub single_by : Naming → Single → Value
single_by n (single.Truth b) = Truth b
single_by n (single.Int z) = Int z
single_by n (single.Text k) = Text (n.text k.0)
single_by n (single.Node m) = Node (reference_by n.node m.0)

-- a value, by a naming
abbrev pub value_by : Naming → CodedValue → Value
value_by n (coded.Truth b) = Truth b
value_by n (coded.Int z) = Int z
value_by n (coded.Text k) = Text (n.text k.0)
value_by n (coded.Node m) = Node (reference_by n.node m.0)
value_by n (coded.Texts cs) = Texts (set_of (map n.text cs))
value_by n (coded.Nodes cs) = Nodes (set_of (nodes_by n.node cs))

-- the same by the texts and source nodes alone
abbrev pub reference_of : ℕ → Reference
reference_of c = reference_by Source c

abbrev pub nodes_of : List ℕ → List NodeName
nodes_of cs = nodes_by Source cs

abbrev pub single_of : (ℕ → List ℕ) → Single → Value
single_of texts v = single_by (source_names texts) v

abbrev pub value_of : (ℕ → List ℕ) → CodedValue → Value
value_of texts v = value_by (source_names texts) v

-- The elements of a set are coded well: each text is one of the program, and none is null. Then each element has one code.
abbrev pub AreElements : Program → CodedValue → Type 0
AreElements p (coded.Truth b) = Unit {0}
AreElements p (coded.Int z) = Unit {0}
AreElements p (coded.Text n) = Unit {0}
AreElements p (coded.Node n) = Unit {0}
AreElements p (coded.Texts cs) = All (λ c. c < length p.texts) cs
AreElements p (coded.Nodes cs) = All (λ c. 0 < c) cs

-- the value of a type that a code stands for, by a naming; a set has the code 0, and its elements stand elsewhere
abbrev pub value_coded : Naming → Kind → ℕ → Value
value_coded n kinds.Truth c = Truth (not (c == 0))
value_coded n kinds.Int c = Int (int_wrap w32 (pos c))
value_coded n kinds.Text c = Text (n.text c)
value_coded n (kinds.Node d) c = Node (reference_by n.node c)
value_coded n kinds.Texts c = default_of kinds.Texts
value_coded n (kinds.Nodes d) c = default_of (kinds.Nodes d)

abbrev pub value_at : (ℕ → List ℕ) → Kind → ℕ → Value
value_at texts k c = value_coded (source_names texts) k c

-- the code c of a type stands for the value x, whatever was made
abbrev pub IsValueCode : Program → Kind → ℕ → Value → Type 0
IsValueCode p k c x = ByEachNaming p (λ n. value_coded n k c ≡ x)

-- the codes of some arguments
abbrev pub codes_in : Args → List ℕ
codes_in xs = take xs.count (xs.first ∷ xs.second ∷ xs.third ∷ [])

-- the arguments for parameters of these types that some codes stand for, by a naming
abbrev pub arguments_by : Naming → List Kind → List ℕ → List Argument
arguments_by n [] cs = []
arguments_by n (k ∷ ks) [] = []
arguments_by n (k ∷ ks) (c ∷ cs) = as_argument k (value_coded n k c) ∷ arguments_by n ks cs

abbrev pub arguments_at : (ℕ → List ℕ) → List Kind → List ℕ → List Argument
arguments_at texts ks cs = arguments_by (source_names texts) ks cs

-- codes for parameters of these types stand for the arguments xs, whatever was made
abbrev pub AreArgumentCodes : Program → List Kind → List ℕ → List Argument → Type 0
AreArgumentCodes p ks cs xs = ByEachNaming p (λ n. arguments_by n ks cs ≡ xs)

-- the arguments of an attribute that some codes stand for, by a naming
abbrev pub arguments_for : Program → Naming → ℕ → Args → List Argument
arguments_for p n a xs = arguments_by n (attribute_parameters p a) (codes_in xs)

abbrev pub arguments_of : Program → ℕ → Args → List Argument
arguments_of p a xs = arguments_for p (source_names (text_of p)) a xs

-- the instance that a coded one stands for, by a naming
abbrev pub instance_by : Program → Naming → CodedInstance → Instance
instance_by p n (coded_instance.Attr a m xs) = Attribute a.0 (reference_by n.node m.0) (arguments_for p n a.0 xs)
instance_by p n (coded_instance.Query q) = Query q.0

abbrev pub instance_of : Program → CodedInstance → Instance
instance_of p i = instance_by p (source_names (text_of p)) i

-- a code of a value of a type: each value has one; sets are none of the values that arguments have
abbrev pub IsCode : Program → Kind → ℕ → Type 0
IsCode p kinds.Truth c = c ≤ 1
IsCode p kinds.Int c = c < 2 ^ 32
IsCode p kinds.Text c = c < length p.texts
IsCode p (kinds.Node d) c = c < 2 ^ 32
IsCode p kinds.Texts c = c ≡ 0
IsCode p (kinds.Nodes d) c = c ≡ 0

-- a truth value has the code 0 or 1, and a set 0 so far
abbrev pub IsSmall : Kind → ℕ → Type 0
IsSmall kinds.Truth c = c ≤ 1
IsSmall kinds.Int c = Unit {0}
IsSmall kinds.Text c = Unit {0}
IsSmall (kinds.Node d) c = Unit {0}
IsSmall kinds.Texts c = c ≡ 0
IsSmall (kinds.Nodes d) c = c ≡ 0

-- codes for parameters of these types, at most one each
abbrev pub AreCodes : Program → List Kind → List ℕ → Type 0
AreCodes p [] [] = Unit {0}
AreCodes p [] (c ∷ cs) = ⊥
AreCodes p (k ∷ ks) [] = Unit {0}
AreCodes p (k ∷ ks) (c ∷ cs) = IsCode p k c × AreCodes p ks cs

-- at most three arguments, and nothing behind them
pub record IsRow (xs : Args) : Type 0 where
  pub few : xs.count ≤ 3
  pub first : xs.count ≤ 0 → xs.first ≡ 0
  pub second : xs.count ≤ 1 → xs.second ≡ 0
  pub third : xs.count ≤ 2 → xs.third ≡ 0

-- An instance is coded well: then it is the only code of what it stands for.
abbrev pub IsCoded : Program → CodedInstance → Type 0
IsCoded p (coded_instance.Attr a n xs) = IsRow xs × AreCodes p (attribute_parameters p a.0) (codes_in xs)
IsCoded p (coded_instance.Query q) = Unit {0}
