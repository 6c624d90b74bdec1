-- What a pass knows of what codes stand for: null, the source nodes, and the nodes of the trees of which it knows what made them.
use Rattle.std.specs.Prelude.{◌≡◌, ℕ, true, ◌<◌, ◌≤◌, List, All, length}
use Rattle.attr_rules.specs.declared.kinds.Kind.{Kind}
use Rattle.attr_rules.specs.declared.kinds.Kind.TheVariants as kinds
use Rattle.equation_law.specs.declared.coding.Instance.{Instance as CodedInstance}
use Rattle.equation_law.specs.declared.coding.Instance.TheVariants as coded_instance
use Rattle.equation_law.specs.declared.coding.Value.{Value as CodedValue}
use Rattle.equation_law.specs.declared.coding.Value.TheVariants as coded
use Rattle.equation_law.specs.Checked.{IsNodeOf}
use Rattle.equation_law.specs.Codes.{IsNamingOf, Naming, arguments_by, codes_in, reference_by, value_coded}
use Rattle.equation_law.specs.Names.{Argument, At, NodeName, Reference}
use Rattle.equation_law.specs.Program.{Program, attribute_parameters, text_of}
use Rattle.equation_law.specs.Sets.{has}
use Rattle.equation_law.specs.Values.{Value, has_node, nodes, texts}
use Rattle.made_trees.specs.Made.{AreNamed, IsNamed, last_code, node_by_makers}

-- A naming for the program that gives the nodes of the trees of these makers their names. What stands at the codes behind is open.
pub record Agrees (p : Program) (ms : List CodedInstance) (n : Naming) : Type 0 where
  pub named : IsNamingOf p n
  pub nodes : (k : ℕ) → k < last_code (length ms) → n.node k ≡ node_by_makers p ms k

-- it holds by each naming that does
abbrev pub ByEachAgreeing : Program → List CodedInstance → (Naming → Type 0) → Type 0
ByEachAgreeing p ms holds = (n : Naming) → Agrees p ms n → holds n

-- what the code of a node or null stands for is known by these makers
abbrev pub IsKnownNode : List CodedInstance → ℕ → Type 0
IsKnownNode ms c = c ≤ last_code (length ms)

-- the same of a code of this type, if that is one of nodes
abbrev pub IsKnownCode : List CodedInstance → Kind → ℕ → Type 0
IsKnownCode ms k c = IsNamed (last_code (length ms)) k c

-- and of codes for parameters of these types
abbrev pub AreKnownCodes : List CodedInstance → List Kind → List ℕ → Type 0
AreKnownCodes ms ks cs = AreNamed (last_code (length ms)) ks cs

-- of the node and the arguments of an instance
abbrev pub IsKnownInstance : Program → List CodedInstance → CodedInstance → Type 0
IsKnownInstance p ms (coded_instance.Attr a n xs) = IsKnownNode ms n.0 × AreKnownCodes ms (attribute_parameters p a.0) (codes_in xs)
IsKnownInstance p ms (coded_instance.Query q) = Unit {0}

-- and of the nodes in a value
abbrev pub IsKnownValue : List CodedInstance → CodedValue → Type 0
IsKnownValue ms (coded.Truth b) = Unit {0}
IsKnownValue ms (coded.Int z) = Unit {0}
IsKnownValue ms (coded.Text n) = Unit {0}
IsKnownValue ms (coded.Node n) = IsKnownNode ms n.0
IsKnownValue ms (coded.Texts cs) = Unit {0}
IsKnownValue ms (coded.Nodes cs) = All (IsKnownNode ms) cs

-- the code c stands for r
abbrev pub IsReferenceAt : Program → List CodedInstance → ℕ → Reference → Type 0
IsReferenceAt p ms c r = ByEachAgreeing p ms (λ n. reference_by n.node c ≡ r)

-- the code c of a type stands for the value x
abbrev pub IsValueCodeAt : Program → List CodedInstance → Kind → ℕ → Value → Type 0
IsValueCodeAt p ms k c x = ByEachAgreeing p ms (λ n. value_coded n k c ≡ x)

-- codes for parameters of these types stand for the arguments xs
abbrev pub AreArgumentCodesAt : Program → List CodedInstance → List Kind → List ℕ → List Argument → Type 0
AreArgumentCodesAt p ms ks cs xs = ByEachAgreeing p ms (λ n. arguments_by n ks cs ≡ xs)

-- the code of a text of the program, or one that is known to be that of a node of the class
abbrev pub IsElementAt : Program → List CodedInstance → Kind → ℕ → Type 0
IsElementAt p ms kinds.Truth c = ⊥
IsElementAt p ms kinds.Int c = ⊥
IsElementAt p ms kinds.Text c = ⊥
IsElementAt p ms (kinds.Node d) c = ⊥
IsElementAt p ms kinds.Texts c = c < length p.texts
IsElementAt p ms (kinds.Nodes d) c = (0 < c) × ((r : Reference) × IsReferenceAt p ms c r × IsNodeOf p d r) × IsKnownNode ms c

-- the text of this code is in the set, or the node for which it stands
abbrev pub HasCodeAt : Program → List CodedInstance → Kind → Value → ℕ → Type 0
HasCodeAt p ms kinds.Truth x c = ⊥
HasCodeAt p ms kinds.Int x c = ⊥
HasCodeAt p ms kinds.Text x c = ⊥
HasCodeAt p ms (kinds.Node d) x c = ⊥
HasCodeAt p ms kinds.Texts x c = has (texts x) (text_of p c) ≡ true
HasCodeAt p ms (kinds.Nodes d) x c = ByEachAgreeing p ms (λ n. has_node (nodes x) (reference_by n.node c) ≡ true)

-- each element of a set of this type has a code that is known
abbrev pub HaveCodesAt : Program → List CodedInstance → Kind → Value → Type 0
HaveCodesAt p ms kinds.Truth x = Unit {0}
HaveCodesAt p ms kinds.Int x = Unit {0}
HaveCodesAt p ms kinds.Text x = Unit {0}
HaveCodesAt p ms (kinds.Node d) x = Unit {0}
HaveCodesAt p ms kinds.Texts x = (t : List ℕ) → has (texts x) t ≡ true → (c : ℕ) × IsElementAt p ms kinds.Texts c × (text_of p c ≡ t)
HaveCodesAt p ms (kinds.Nodes d) x = (n : NodeName) → has (nodes x) n ≡ true → (c : ℕ) × IsElementAt p ms (kinds.Nodes d) c × IsReferenceAt p ms c (At n)
