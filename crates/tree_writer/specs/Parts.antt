-- What is still to be written, in parts, each with its text.
use Rattle.std.specs.Prelude.{◌≡◌, ℕ, zero, suc, List, [], ◌∷◌, ◌++◌, Bool, true, false, Some, codes, length, map, slice_get}
use Rattle.ast_grammar.specs.Grammar.{Class}
use Rattle.tree_arena.specs.Terms.{Forest}
use Rattle.tree_writer.specs.declared.parts.Part.{Part}
use Rattle.tree_writer.specs.declared.parts.Part.TheVariants.{Node, Argument, Comma, Close, CloseList}
use Rattle.tree_writer.specs.Canonical.{root_arguments, tree_text}
use Rattle.tree_writer.specs.Showing.{IsSubtree, hung_at}

abbrev pub node_part : ℕ → Part
node_part n = Node n

-- parts with a comma between two
abbrev pub further_parts : List Part → List Part
further_parts [] = []
further_parts (p ∷ parts) = Comma ∷ p ∷ further_parts parts

abbrev pub listed : List Part → List Part
listed [] = []
listed (p ∷ parts) = p ∷ further_parts parts

-- parts behind the comma that stands behind each part but the last
abbrev pub comma_unless : Bool → List Part → List Part
comma_unless true parts = parts
comma_unless false parts = Comma ∷ parts

-- so many arguments of a node, from the k-th on
abbrev pub arguments_from : ℕ → ℕ → ℕ → List Part
arguments_from n k zero = []
arguments_from n k (suc count) = Argument n k ∷ arguments_from n (suc k) count

-- each of some codes shows the tree at its place
abbrev pub AreShown : (ℕ → Forest → Type 0) → List ℕ → List Forest → Type 0
AreShown shows [] [] = Unit {0}
AreShown shows [] (tree ∷ trees) = ⊥
AreShown shows (m ∷ ms) [] = ⊥
AreShown shows (m ∷ ms) (tree ∷ trees) = shows m tree × AreShown shows ms trees

-- nodes that show later what hangs at component k of a node were put in front of other parts
abbrev pub PutsNodes : (ℕ → Forest → Type 0) → (ℕ → Forest → Type 0) → ℕ → ℕ → List Part → List Part → Type 0
PutsNodes shows later n k old new = (tree : Forest) → shows n tree → (ms : List ℕ) × AreShown later ms (hung_at tree k) × (new ≡ listed (map node_part ms) ++ old)

-- a code of the root of a tree of the grammar, with so many texts
abbrev pub HasSubtree : List Class → ℕ → (ℕ → Forest → Type 0) → ℕ → Type 0
HasSubtree g texts shows n = (tree : Forest) × shows n tree × IsSubtree g texts tree

-- the text of each such tree was added
abbrev pub AddsSubtree : List Class → List (List ℕ) → (ℕ → Forest → Type 0) → ℕ → List ℕ → List ℕ → Type 0
AddsSubtree g pool shows n old new = (tree : Forest) → shows n tree → IsSubtree g (length pool) tree → new ≡ old ++ tree_text g pool tree

-- The text of a node's subtree.
pub record IsNodeText (g : List Class) (pool : List (List ℕ)) (shows : ℕ → Forest → Type 0) (n : ℕ) (text : List ℕ) : Type 0 where
  pub tree : Forest
  pub shown : shows n tree
  pub grown : IsSubtree g (length pool) tree
  pub are : text ≡ tree_text g pool tree

-- The text of what stands at a component of a node.
pub record IsArgumentText (g : List Class) (pool : List (List ℕ)) (shows : ℕ → Forest → Type 0) (n k : ℕ) (text : List ℕ) : Type 0 where
  pub tree : Forest
  pub shown : shows n tree
  pub grown : IsSubtree g (length pool) tree
  pub at : slice_get (root_arguments g pool tree) k ≡ Some text

-- a text of a part, where these trees are shown
abbrev pub IsTextOf : List Class → List (List ℕ) → (ℕ → Forest → Type 0) → Part → List ℕ → Type 0
IsTextOf g pool shows (Node n) text = IsNodeText g pool shows n text
IsTextOf g pool shows (Argument n k) text = IsArgumentText g pool shows n k text
IsTextOf g pool shows Comma text = text ≡ codes ", "
IsTextOf g pool shows Close text = text ≡ codes ")"
IsTextOf g pool shows CloseList text = text ≡ codes "]"

abbrev pub IsPart : List Class → List (List ℕ) → (ℕ → Forest → Type 0) → Part → Type 0
IsPart g pool shows p = (text : List ℕ) × IsTextOf g pool shows p text

-- a text of several parts
abbrev pub AreTextsOf : List Class → List (List ℕ) → (ℕ → Forest → Type 0) → List Part → List ℕ → Type 0
AreTextsOf g pool shows [] text = text ≡ []
AreTextsOf g pool shows (p ∷ parts) text =
    (first rest : List ℕ) × IsTextOf g pool shows p first × AreTextsOf g pool shows parts rest × (text ≡ first ++ rest)

-- what is written, with a text of what is still to be written, is the whole
abbrev pub IsHalfway : List Class → List (List ℕ) → (ℕ → Forest → Type 0) → List ℕ → List Part → List ℕ → Type 0
IsHalfway g pool shows text stack whole = (rest : List ℕ) × AreTextsOf g pool shows stack rest × (text ++ rest ≡ whole)

-- one part was taken, something was written, and what is left of it was put in its place
abbrev pub GoesOn : List Class → List (List ℕ) → (ℕ → Forest → Type 0) → (ℕ → Forest → Type 0) → Part → List ℕ → List Part → List ℕ → List Part → Type 0
GoesOn g pool shows later p text stack new left =
    (whole : List ℕ) → IsHalfway g pool shows text (p ∷ stack) whole → IsHalfway g pool later new left whole
