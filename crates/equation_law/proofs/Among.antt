-- Integers, texts and nodes among which the values of a program stay, and what a node leads to: all nodes of its tree, what made it, and what that was
-- made with.
use Rattle.std.proofs.Common.{ℕ, ℤ, ◌<◌, List, length}
use Rattle.equation_law.specs.Names.{Argument, At, Made, NodeName, Null, OfInt, OfNode, OfText, OfTruth, Reference, Row, Source, end_row, row}
use Rattle.equation_law.specs.Program.{Program, tree_made}

pub record Among : Type 1 where
  pub ints : ℤ → Type 0
  pub texts : List ℕ → Type 0
  pub nodes : NodeName → Type 0

-- null, or one of some nodes
abbrev pub HasReference : (NodeName → Type 0) → Reference → Type 0
HasReference X Null = Unit {0}
HasReference X (At n) = X n

abbrev pub HasArgument : (NodeName → Type 0) → Argument → Type 0
HasArgument X (OfTruth b) = Unit {0}
HasArgument X (OfInt z) = Unit {0}
HasArgument X (OfText t) = Unit {0}
HasArgument X (OfNode r) = HasReference X r

abbrev pub HasRow : (NodeName → Type 0) → Row → Type 0
HasRow X end_row = Unit {0}
HasRow X (row x xs) = HasArgument X x × HasRow X xs

-- all source nodes are among them, and with a node that was made all nodes of its tree, the node at which it was made, and those of the arguments
pub record HasInside (p : Program) (X : NodeName → Type 0) : Type 0 where
  pub source : (k : ℕ) → k < length p.tree → X (Source k)
  pub beside : {a : ℕ} {r : Reference} {xs : Row} {q : ℕ} (m : ℕ) → m < length (tree_made p a r) → X (Made a r xs q) → X (Made a r xs m)
  pub owner : {a : ℕ} {n : NodeName} {xs : Row} {q : ℕ} → X (Made a (At n) xs q) → X n
  pub arguments : {a : ℕ} {r : Reference} {xs : Row} {q : ℕ} → X (Made a r xs q) → HasRow X xs

-- a node is met from another by going to any node of its tree, and then to the one at which that tree was made
pub data IsInside (p : Program) : NodeName → NodeName → Type 0 where
  same : {n : NodeName} → IsInside p n n
  source : {k : ℕ} (j : ℕ) → j < length p.tree → IsInside p (Source k) (Source j)
  beside : {a : ℕ} {r : Reference} {xs : Row} {q : ℕ} {n : NodeName} (m : ℕ) → m < length (tree_made p a r) → IsInside p (Made a r xs m) n → IsInside p (Made a r xs q) n
  owner : {a : ℕ} {m : NodeName} {xs : Row} {q : ℕ} {n : NodeName} → IsInside p m n → IsInside p (Made a (At m) xs q) n

pub inside_has : (p : Program) (X : NodeName → Type 0) → HasInside p X → {n m : NodeName} → IsInside p n m → X n → X m
inside_has p X closed same h = h
inside_has p X closed (source j l) h = closed.source j l
inside_has p X closed (beside m l i) h = inside_has p X closed i (closed.beside m l h)
inside_has p X closed (owner i) h = inside_has p X closed i (closed.owner h)
