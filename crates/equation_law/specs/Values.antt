-- Values. Each is read at a type, and a value of another type reads as the type's default.
use Rattle.std.specs.Prelude.{ℕ, ℤ, pos, Bool, false, List, [], ◌∷◌, map}
use Rattle.attr_rules.specs.declared.kinds.Kind.{Kind}
use Rattle.attr_rules.specs.declared.kinds.Kind.TheVariants as kinds
use Rattle.attr_rules.specs.declared.expression.SetOperator.{SetOperator}
use Rattle.attr_rules.specs.declared.expression.SetOperator.TheVariants.{Union, Inter, Minus}
use Rattle.std.specs.declared.cmp.Ordering.{Ordering}
use Rattle.equation_law.specs.Names.{Argument, At, NodeName, OfInt, OfNode, OfText, OfTruth, Reference, Null, node_cmp, text_cmp}
use Rattle.equation_law.specs.Sets.{SetBy, elements, has, inter, minus, no_elements, set_of, size, union}

pub data Value : Type 0 where
  Truth : Bool → Value
  Int : ℤ → Value
  Text : List ℕ → Value
  Node : Reference → Value
  Texts : SetBy text_cmp → Value
  Nodes : SetBy node_cmp → Value
  -- the root of a tree that an attribute makes, and the values of the tokens there, in their order
  Tree : Reference → List Argument → Value

abbrev pub truth : Value → Bool
truth (Truth b) = b
truth (Int z) = false
truth (Text t) = false
truth (Node n) = false
truth (Texts s) = false
truth (Nodes s) = false
truth (Tree r ts) = false

abbrev pub int : Value → ℤ
int (Truth b) = pos 0
int (Int z) = z
int (Text t) = pos 0
int (Node n) = pos 0
int (Texts s) = pos 0
int (Nodes s) = pos 0
int (Tree r ts) = pos 0

abbrev pub text : Value → List ℕ
text (Truth b) = []
text (Int z) = []
text (Text t) = t
text (Node n) = []
text (Texts s) = []
text (Nodes s) = []
text (Tree r ts) = []

abbrev pub node : Value → Reference
node (Truth b) = Null
node (Int z) = Null
node (Text t) = Null
node (Node n) = n
node (Texts s) = Null
node (Nodes s) = Null
node (Tree r ts) = r

abbrev pub texts : Value → SetBy text_cmp
texts (Truth b) = no_elements
texts (Int z) = no_elements
texts (Text t) = no_elements
texts (Node n) = no_elements
texts (Texts s) = s
texts (Nodes s) = no_elements
texts (Tree r ts) = no_elements

abbrev pub nodes : Value → SetBy node_cmp
nodes (Truth b) = no_elements
nodes (Int z) = no_elements
nodes (Text t) = no_elements
nodes (Node n) = no_elements
nodes (Texts s) = no_elements
nodes (Nodes s) = s
nodes (Tree r ts) = no_elements

-- the values of the tokens of a tree; other values have none
abbrev pub tokens : Value → List Argument
tokens (Truth b) = []
tokens (Int z) = []
tokens (Text t) = []
tokens (Node n) = []
tokens (Texts s) = []
tokens (Nodes s) = []
tokens (Tree r ts) = ts

-- a value read at a type: of a tree that is its root
abbrev pub as_kind : Kind → Value → Value
as_kind kinds.Truth v = Truth (truth v)
as_kind kinds.Int v = Int (int v)
as_kind kinds.Text v = Text (text v)
as_kind (kinds.Node c) v = Node (node v)
as_kind kinds.Texts v = Texts (texts v)
as_kind (kinds.Nodes c) v = Nodes (nodes v)

-- the default of a type
abbrev pub default_of : Kind → Value
default_of kinds.Truth = Truth false
default_of kinds.Int = Int (pos 0)
default_of kinds.Text = Text []
default_of (kinds.Node c) = Node Null
default_of kinds.Texts = Texts no_elements
default_of (kinds.Nodes c) = Nodes no_elements

-- a tree that is made, where the type is that of nodes; an equation of another type makes the type's default
abbrev pub as_tree : Kind → Reference → List Argument → Value
as_tree kinds.Truth r ts = default_of kinds.Truth
as_tree kinds.Int r ts = default_of kinds.Int
as_tree kinds.Text r ts = default_of kinds.Text
as_tree (kinds.Node c) r ts = Tree r ts
as_tree kinds.Texts r ts = default_of kinds.Texts
as_tree (kinds.Nodes c) r ts = default_of (kinds.Nodes c)

-- the value of an argument, and the argument that a value of a type is
abbrev pub argument_value : Argument → Value
argument_value (OfTruth b) = Truth b
argument_value (OfInt z) = Int z
argument_value (OfText t) = Text t
argument_value (OfNode n) = Node n

abbrev pub as_argument : Kind → Value → Argument
as_argument kinds.Truth v = OfTruth (truth v)
as_argument kinds.Int v = OfInt (int v)
as_argument kinds.Text v = OfText (text v)
as_argument (kinds.Node c) v = OfNode (node v)
as_argument kinds.Texts v = OfTruth false
as_argument (kinds.Nodes c) v = OfTruth false

-- values as the arguments for parameters of these types
abbrev pub as_arguments : List Kind → List Value → List Argument
as_arguments [] vs = []
as_arguments (k ∷ ks) [] = []
as_arguments (k ∷ ks) (v ∷ vs) = as_argument k v ∷ as_arguments ks vs

-- the set of a text or of a node. No set holds null, so that of null is empty, and so is that of a value of which there are no sets.
abbrev pub single : Value → Value
single (Truth b) = Nodes no_elements
single (Int z) = Nodes no_elements
single (Text t) = Texts (set_of (t ∷ []))
single (Node Null) = Nodes no_elements
single (Node (At n)) = Nodes (set_of (n ∷ []))
single (Texts s) = Nodes no_elements
single (Nodes s) = Nodes no_elements
single (Tree r ts) = Nodes no_elements

-- whether a set of nodes has a node; none has null
abbrev pub has_node : SetBy node_cmp → Reference → Bool
has_node s Null = false
has_node s (At n) = has s n

-- whether a set has a value among its elements
abbrev pub contains : Value → Value → Bool
contains (Truth b) w = false
contains (Int z) w = false
contains (Text t) w = false
contains (Node n) w = false
contains (Texts s) w = has s (text w)
contains (Nodes s) w = has_node s (node w)
contains (Tree r ts) w = false

-- how many elements a set has
abbrev pub size_of : Value → ℕ
size_of (Truth b) = 0
size_of (Int z) = 0
size_of (Text t) = 0
size_of (Node n) = 0
size_of (Texts s) = size s
size_of (Nodes s) = size s
size_of (Tree r ts) = 0

abbrev pub of_node : NodeName → Value
of_node n = Node (At n)

-- the elements of a set, texts in the order of their bytes and nodes in that of their names
abbrev pub elements_of : Value → List Value
elements_of (Truth b) = []
elements_of (Int z) = []
elements_of (Text t) = []
elements_of (Node n) = []
elements_of (Texts s) = map Text (elements s)
elements_of (Nodes s) = map of_node (elements s)
elements_of (Tree r ts) = []

abbrev pub combined : {K : Type 0} {R : K → K → Ordering} → SetOperator → SetBy R → SetBy R → SetBy R
combined Union s t = union s t
combined Inter s t = inter s t
combined Minus s t = minus s t

-- what is made of two sets, both read at a type
abbrev pub set_operate : SetOperator → Kind → Value → Value → Value
set_operate o kinds.Truth v w = default_of kinds.Truth
set_operate o kinds.Int v w = default_of kinds.Int
set_operate o kinds.Text v w = default_of kinds.Text
set_operate o (kinds.Node c) v w = default_of (kinds.Node c)
set_operate o kinds.Texts v w = Texts (combined o (texts v) (texts w))
set_operate o (kinds.Nodes c) v w = Nodes (combined o (nodes v) (nodes w))
