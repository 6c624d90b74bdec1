-- Readers: what they tell of the values of instances.
use Rattle.std.specs.Prelude.{◌≡◌, ℕ, ◌<◌, ◌≤◌, List, [], ◌∷◌, Option, Some, None, IsSome, Result, Ok, Err, All, length, slice_get}
use Rattle.std.specs.Cmp.Lexicographic.{slice_cmp}
use Rattle.std.specs.Ordering.{nat_cmp}
use Rattle.std.specs.declared.cmp.Ordering.{Ordering}
use Rattle.rag_io.specs.declared.Memory.{Memory}
use Rattle.ast_grammar.specs.declared.grammar.ClassId.{ClassId}
use Rattle.ast_grammar.specs.Grammar.{Class}
use Rattle.attr_rules.specs.declared.kinds.Kind.{Kind}
use Rattle.attr_rules.specs.declared.kinds.Kind.TheVariants as kinds
use Rattle.tree_arena.specs.Nodes.{Node as TreeNode, component_in, most_nodes, parent_in}
use Rattle.equation_law.specs.declared.coding.Instance.{Instance as CodedInstance}
use Rattle.equation_law.specs.declared.coding.Instance.TheVariants as coded_instance
use Rattle.equation_law.specs.declared.coding.NodeRef.{NodeRef}
use Rattle.equation_law.specs.declared.coding.Up.{Up}
use Rattle.equation_law.specs.declared.coding.Up.TheVariants as up
use Rattle.equation_law.specs.declared.coding.Value.{Value as CodedValue}
use Rattle.equation_law.specs.declared.coding.Value.TheVariants as coded
use Rattle.equation_law.specs.Checked.{IsInstance, TreesFit}
use Rattle.equation_law.specs.Codes.{AreElements, IsCode, IsCoded, IsNamingOf, Naming, codes_in, instance_by, reference_by, value_by, value_coded}
use Rattle.equation_law.specs.Created.{Making, token_kinds, token_type}
use Rattle.equation_law.specs.Equations.{collection_of, kind_in, number_or_zero, token_place, token_value, world_of}
use Rattle.equation_law.specs.Meaning.{child_at}
use Rattle.equation_law.specs.Names.{Argument, At, Attribute, Instance, Made, NodeName, Null, Reference, Row, Source, list_of, reference_code}
use Rattle.equation_law.specs.Program.{Program, attribute_parameters, class_at, making_of, tree_made}
use Rattle.equation_law.specs.Values.{Value, as_argument, as_kind, tokens}

-- What a reader tells in a state: the programs that it is for, the values that it has, those that it may come to have, the states of
-- which it has lost nothing, the namings by which it may be read, which are those that agree with what it knows of what codes stand for, the codes
-- of which it knows that, and how far up the way from a node that was made leads at most, by its code.
pub record Told (S : Type 0) : Type 1 where
  pub for : Program → Type 0
  pub has : Instance → Value → Type 0
  pub can : Instance → Value → Type 0
  pub keeps : S → Type 0
  pub names : Naming → Type 0
  pub knows : ℕ → Type 0
  pub height : ℕ → ℕ

-- it holds by each naming by which the reader may be read
abbrev pub ByEachIn : {S : Type 0} → Told S → (Naming → Type 0) → Type 0
ByEachIn s holds = (n : Naming) → s.names n → holds n

-- by each of them the code is one of an instance of the program
abbrev pub IsInstanceIn : {S : Type 0} → Program → Told S → CodedInstance → Type 0
IsInstanceIn p s i = ByEachIn s (λ n. IsInstance p (instance_by p n i))

-- and of none that is a collection
abbrev pub IsSingleIn : {S : Type 0} → Program → Told S → CodedInstance → Type 0
IsSingleIn p s i = ByEachIn s (λ n. collection_of p (instance_by p n i) ≡ None)

-- each of some tokens has one of these types in their order, and is an argument of that type
abbrev pub AreTokensOf : List Kind → List Argument → Type 0
AreTokensOf ks xs = (k : ℕ) (x : Argument) → slice_get xs k ≡ Some x → (t : Kind) × (slice_get ks k ≡ Some t) × (v : Value) × (x ≡ as_argument t v)

-- a code of this type is no node's, or that of one that the reader knows
abbrev pub IsKnownCode : {S : Type 0} → Told S → Kind → ℕ → Type 0
IsKnownCode r kinds.Truth c = Unit {0}
IsKnownCode r kinds.Int c = Unit {0}
IsKnownCode r kinds.Text c = Unit {0}
IsKnownCode r (kinds.Node d) c = r.knows c
IsKnownCode r kinds.Texts c = Unit {0}
IsKnownCode r (kinds.Nodes d) c = Unit {0}

abbrev pub AreKnownCodes : {S : Type 0} → Told S → List Kind → List ℕ → Type 0
AreKnownCodes r [] cs = Unit {0}
AreKnownCodes r (k ∷ ks) [] = Unit {0}
AreKnownCodes r (k ∷ ks) (c ∷ cs) = IsKnownCode r k c × AreKnownCodes r ks cs

-- it knows the node and the arguments of an instance
abbrev pub KnowsInstance : {S : Type 0} → Program → Told S → CodedInstance → Type 0
KnowsInstance p r (coded_instance.Attr a n xs) = r.knows n.0 × AreKnownCodes r (attribute_parameters p a.0) (codes_in xs)
KnowsInstance p r (coded_instance.Query q) = Unit {0}

-- it knows the nodes in a value
abbrev pub KnowsValue : {S : Type 0} → Told S → CodedValue → Type 0
KnowsValue r (coded.Truth b) = Unit {0}
KnowsValue r (coded.Int z) = Unit {0}
KnowsValue r (coded.Text n) = Unit {0}
KnowsValue r (coded.Node n) = r.knows n.0
KnowsValue r (coded.Texts cs) = Unit {0}
KnowsValue r (coded.Nodes cs) = All r.knows cs

-- A reader for a program, which never has two values for one instance, and is read by a naming for the program, or by several. It knows null and the source nodes. What
-- the program makes fits the grammar, and the tokens of the trees that it may have are of the types that their `new` says.
pub record IsSound {S : Type 0} (p : Program) (r : Told S) : Type 0 where
  pub for : r.for p
  pub within : (i : Instance) (v : Value) → r.has i v → r.can i v
  pub one_value : (i : Instance) (v w : Value) → r.can i v → r.can i w → v ≡ w
  pub named : ByEachIn r (IsNamingOf p)
  pub some : (n : Naming) × r.names n
  pub sources : (c : ℕ) → c ≤ most_nodes → r.knows c
  pub fit : TreesFit p
  pub trees : (a : ℕ) (o : Reference) (xs : List Argument) (v : Value) → r.can (Attribute a o xs) v → (m : Making) → making_of p a o ≡ Some m → AreTokensOf (token_kinds m.arguments) (tokens v)

-- What it has it keeps, and it comes to have no other values than it might. By what it may be read then it might before: what stands for a node
-- goes on to.
pub record Grows {S : Type 0} (p : Program) (r s : Told S) : Type 0 where
  pub sound : IsSound p s
  pub values : (i : Instance) (v : Value) → r.has i v → s.has i v
  pub bound : (i : Instance) (v : Value) → s.can i v → r.can i v
  pub kept : (x : S) → r.keeps x → s.keeps x
  pub names : ByEachIn s r.names
  pub known : (c : ℕ) → r.knows c → s.knows c
  pub heights : (c : ℕ) → s.height c ≤ r.height c

-- an answer for an instance by a naming, read at the type of the instance, by what the reader has at the end of the call
abbrev pub HasThere : {S : Type 0} → Program → Told S → Instance → Value → Type 0
HasThere p s i v = (w : Value) × s.has i w × (v ≡ as_kind (kind_in p i) w)

abbrev pub HasNone : {S : Type 0} → Told S → Instance → Type 0
HasNone s i = (w : Value) → s.has i w → ⊥

-- An answer for what an instance stands for by each naming by which the reader may be read then. The elements of a set are coded well, and the reader knows the nodes in the
-- value then.
abbrev pub Settles : {S : Type 0} → Program → Told S → (Naming → Instance) → Result (Option CodedValue) Memory → Type 0
Settles p s at (Ok (Some v)) = ByEachIn s (λ n. HasThere p s (at n) (value_by n v)) × AreElements p v × KnowsValue s v
Settles p s at (Ok None) = ByEachIn s (λ n. HasNone s (at n))
Settles p s at (Err m) = Unit {0}

pub record SettledBy {S : Type 0} (r s : Told S) (i : CodedInstance) (result : Result (Option CodedValue) Memory) : Type 0 where
  pub kept : (p : Program) → IsSound p r → Grows p r s
  pub answer : (p : Program) → IsSound p r → IsCoded p i → KnowsInstance p r i → Settles p s (λ n. instance_by p n i) result

-- the class of what a reference stands for
abbrev pub class_behind : Program → Reference → Option ClassId
class_behind p Null = None
class_behind p (At m) = class_at p m

-- the number is that of a class, or where there is none that of no class of the grammar
abbrev pub IsClassOf : List Class → Option ClassId → ClassId → Type 0
IsClassOf g None d = length g ≤ d.0
IsClassOf g (Some c) d = d ≡ c

pub record ClassBy {S : Type 0} (r s : Told S) (node : NodeRef) (result : ClassId) : Type 0 where
  pub kept : (p : Program) → IsSound p r → Grows p r s
  pub answer : (p : Program) → IsSound p r → most_nodes < node.0 → r.knows node.0 → ByEachIn s (λ n. IsClassOf p.grammar (class_behind p (reference_by n.node node.0)) result)

pub record ChildBy {S : Type 0} (r s : Told S) (node : NodeRef) (k : ℕ) (result : NodeRef) : Type 0 where
  pub kept : (p : Program) → IsSound p r → Grows p r s
  pub answer : (p : Program) → IsSound p r → most_nodes < node.0 → r.knows node.0 → ByEachIn s (λ n. reference_by n.node result.0 ≡ child_at (world_of p) k (reference_by n.node node.0))
  pub known : (p : Program) → IsSound p r → most_nodes < node.0 → r.knows node.0 → s.knows result.0

-- The code of a token: by each naming it stands for the value of the token in the value of what made the node.
pub record TokenBy {S : Type 0} (r s : Told S) (node : NodeRef) (k result : ℕ) : Type 0 where
  pub kept : (p : Program) → IsSound p r → Grows p r s
  pub answer : (p : Program) → IsSound p r → r.knows node.0 → ByEachIn s (λ n.
      (a q : ℕ) (o : Reference) (xs : Row) → reference_by n.node node.0 ≡ At (Made a o xs q) → (w : Value) → r.has (Attribute a o (list_of xs)) w
      → (t : Kind) → token_type (making_of p a o) q k ≡ Some t → value_coded n t result ≡ as_kind t (token_value (tokens w) (token_place (making_of p a o) q k)))

-- what stands above a node that was made: its parent in the tree, with the component at which it hangs there, or the node at which the attribute
-- of this number made the tree
pub data Higher : Type 0 where
  Parent : NodeName → ℕ → Higher
  Maker : Reference → ℕ → Higher

abbrev pub parent_or_maker : (ℕ → NodeName) → Reference → ℕ → List TreeNode → ℕ → Option ℕ → Higher
parent_or_maker name r a tree q None = Maker r a
parent_or_maker name r a tree q (Some u) = Parent (name u) (number_or_zero (component_in tree q))

-- nothing stands above a source node in this way, and nothing above null
abbrev pub higher_than : Program → Reference → Higher
higher_than p Null = Maker Null 0
higher_than p (At (Source k)) = Maker Null 0
higher_than p (At (Made a r xs q)) = parent_or_maker (Made a r xs) r a (tree_made p a r) q (parent_in (tree_made p a r) q)

-- by a naming a coded one is this one
abbrev pub IsHigher : Naming → Up → Higher → Type 0
IsHigher n (up.Inside m k) (Parent x j) = (reference_by n.node m.0 ≡ At x) × (k ≡ j)
IsHigher n (up.Inside m k) (Maker r a) = ⊥
IsHigher n (up.Owner m b) (Parent x j) = ⊥
IsHigher n (up.Owner m b) (Maker r a) = (reference_by n.node m.0 ≡ r) × (b.0 ≡ a)

-- the code of the node above
abbrev pub code_above : Up → ℕ
code_above (up.Inside m k) = m.0
code_above (up.Owner m b) = m.0

pub record UpBy {S : Type 0} (r s : Told S) (node : NodeRef) (result : Up) : Type 0 where
  pub kept : (p : Program) → IsSound p r → Grows p r s
  pub answer : (p : Program) → IsSound p r → most_nodes < node.0 → r.knows node.0 → ByEachIn s (λ n. IsSome (class_behind p (reference_by n.node node.0)) → IsHigher n result (higher_than p (reference_by n.node node.0)))
  pub known : (p : Program) → IsSound p r → most_nodes < node.0 → r.knows node.0 → s.knows (code_above result)
  pub falls : (p : Program) → IsSound p r → most_nodes < node.0 → s.height (code_above result) < r.height node.0

-- the code of an argument with which a node was made, of a parameter's type; the reader knows it where it is that of a node
pub record ArgumentBy {S : Type 0} (r s : Told S) (node : NodeRef) (k result : ℕ) : Type 0 where
  pub kept : (p : Program) → IsSound p r → Grows p r s
  pub answer : (p : Program) → IsSound p r → r.knows node.0 → ByEachIn s (λ n.
      (a q : ℕ) (o : Reference) (xs : Row) → reference_by n.node node.0 ≡ At (Made a o xs q) → IsSome (class_at p (Made a o xs q)) → (t : Kind) (x : Argument) → slice_get (attribute_parameters p a) k ≡ Some t
      → slice_get (list_of xs) k ≡ Some x → IsCode p t result × (as_argument t (value_coded n t result) ≡ x) × IsKnownCode s t result)

-- the order of names; null is the first
abbrev pub reference_cmp : Reference → Reference → Ordering
reference_cmp a b = slice_cmp nat_cmp (reference_code a []) (reference_code b [])

pub record OrderBy {S : Type 0} (r s : Told S) (a b : NodeRef) (result : Ordering) : Type 0 where
  pub kept : (p : Program) → IsSound p r → Grows p r s
  pub answer : (p : Program) → IsSound p r → r.knows a.0 → r.knows b.0 → ByEachIn s (λ n. result ≡ reference_cmp (reference_by n.node a.0) (reference_by n.node b.0))
