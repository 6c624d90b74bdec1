-- Texts of values by each naming for a program, where their nodes are source nodes.
use Rattle.std.specs.Prelude.{◌≡◌, ℕ, true, ◌<◌, List, length}
use Rattle.equation_law.specs.declared.coding.Value.{Value as CodedValue}
use Rattle.equation_law.specs.Codes.{ByEachNaming, value_by}
use Rattle.equation_law.specs.Names.{At, NodeName, Null, Reference, Source}
use Rattle.equation_law.specs.Program.{Program}
use Rattle.equation_law.specs.Sets.{has}
use Rattle.equation_law.specs.Values.{Int, Node, Nodes, Text, Texts, Tree, Truth, Value}
use Rattle.query_lang.specs.Replies.{AddsReply}

-- null, or a source node of the tree
pub data IsSource (p : Program) : Reference → Type 0 where
  null : IsSource p Null
  source : {k : ℕ} → k < length p.tree → IsSource p (At (Source k))

-- each node in the value is a source node of the tree; a tree that was made has others
abbrev pub AreSources : Program → Value → Type 0
AreSources p (Truth b) = Unit {0}
AreSources p (Int z) = Unit {0}
AreSources p (Text t) = Unit {0}
AreSources p (Node r) = IsSource p r
AreSources p (Texts s) = Unit {0}
AreSources p (Nodes s) = (n : NodeName) → has s n ≡ true → IsSource p (At n)
AreSources p (Tree r ts) = ⊥

-- the text of the value and a line feed were added, by each naming for the program by which its nodes are source nodes
abbrev pub AddsReplyBy : Program → CodedValue → List ℕ → List ℕ → Type 0
AddsReplyBy p v old new = ByEachNaming p (λ names. AreSources p (value_by names v) → AddsReply (value_by names v) old new)
