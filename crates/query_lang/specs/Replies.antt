-- The text of a value in a reply.
use Rattle.std.specs.Prelude.{◌≡◌, ℕ, ℤ, Bool, true, false, List, [], ◌∷◌, ◌++◌, codes, map}
use Rattle.std.specs.Fmt.{decimal, signed_decimal}
use Rattle.rag_io.specs.Quoting.{quoted}
use Rattle.equation_law.specs.Checked.{IsSource}
use Rattle.equation_law.specs.Names.{At, Made, NodeName, Null, Reference, Source, node_cmp, text_cmp}
use Rattle.equation_law.specs.Sets.{SetBy, elements, has}
use Rattle.equation_law.specs.Values.{Int, Node, Nodes, Text, Texts, Tree, Truth, Value}

abbrev pub truth_text : Bool → List ℕ
truth_text true = codes "true"
truth_text false = codes "false"

-- A source node is `@` and its number. Replies have no nodes that were made yet.
abbrev pub node_text : NodeName → List ℕ
node_text (Source k) = codes "@" ++ decimal k
node_text (Made a r xs q) = []

-- texts that follow others, each behind a comma and a space
abbrev pub further : List (List ℕ) → List ℕ
further [] = []
further (text ∷ texts) = codes ", " ++ (text ++ further texts)

-- texts in their order, with a comma and a space between two
abbrev pub joined : List (List ℕ) → List ℕ
joined [] = []
joined (text ∷ texts) = text ++ further texts

-- a set by the texts of its elements
abbrev pub in_braces : List (List ℕ) → List ℕ
in_braces texts = codes "{" ++ (joined texts ++ codes "}")

-- null, or a source node
abbrev pub MayBeSource : Reference → Type 0
MayBeSource Null = Unit {0}
MayBeSource (At n) = IsSource (At n)

-- each node of the set is a source node
abbrev pub AreSourceNodes : SetBy node_cmp → Type 0
AreSourceNodes s = (n : NodeName) → has s n ≡ true → IsSource (At n)

-- each node in the value is a source node; a tree that was made has others
abbrev pub HasSourceNodes : Value → Type 0
HasSourceNodes (Truth b) = Unit {0}
HasSourceNodes (Int z) = Unit {0}
HasSourceNodes (Text t) = Unit {0}
HasSourceNodes (Node r) = MayBeSource r
HasSourceNodes (Texts s) = Unit {0}
HasSourceNodes (Nodes s) = AreSourceNodes s
HasSourceNodes (Tree r ts) = ⊥

-- The text of a value in a reply, where its nodes are source nodes. A text stands in quotes. A set stands in braces with its elements in their order:
-- texts in that of their bytes, nodes in that of their names.
pub data IsReplyText : Value → List ℕ → Type 0 where
  of_truth : (b : Bool) → IsReplyText (Truth b) (truth_text b)
  of_int : (z : ℤ) → IsReplyText (Int z) (signed_decimal z)
  of_text : (t : List ℕ) → IsReplyText (Text t) (quoted t)
  of_null : IsReplyText (Node Null) (codes "null")
  of_node : (n : NodeName) → IsSource (At n) → IsReplyText (Node (At n)) (node_text n)
  of_texts : (s : SetBy text_cmp) → IsReplyText (Texts s) (in_braces (map quoted (elements s)))
  of_nodes : (s : SetBy node_cmp) → AreSourceNodes s → IsReplyText (Nodes s) (in_braces (map node_text (elements s)))

-- the text of the value was added
pub record AddsText (v : Value) (old new : List ℕ) : Type 0 where
  pub text : List ℕ
  pub of_value : IsReplyText v text
  pub added : new ≡ old ++ text

-- the text of the value was added, and a line feed
pub record AddsReply (v : Value) (old new : List ℕ) : Type 0 where
  pub text : List ℕ
  pub of_value : IsReplyText v text
  pub added : new ≡ old ++ (text ++ 10 ∷ [])
