-- Names of nodes, and instances of attributes. What tells two of them apart, and their order, is their writing
-- as a list of numbers.
use Rattle.std.specs.Prelude.{ℕ, zero, suc, ℤ, pos, negsuc, Bool, true, false, List, [], ◌∷◌, Option, Some, None}
use Rattle.std.specs.Ordering.{nat_cmp, on, is_eq}
use Rattle.std.specs.declared.cmp.Ordering.{Ordering}
use Rattle.std.specs.Cmp.Lexicographic.{slice_cmp}

mutual
  -- a node: the source node of this number, or that of this position in the tree that an attribute makes at a node with arguments; both in preorder
  pub data NodeName : Type 0 where
    Source : ℕ → NodeName
    Made : ℕ → Reference → Row → ℕ → NodeName

  -- a node, or null
  pub data Reference : Type 0 where
    Null : Reference
    At : NodeName → Reference

  -- an argument of a call: a truth value, an integer, a text or a node
  pub data Argument : Type 0 where
    OfTruth : Bool → Argument
    OfInt : ℤ → Argument
    OfText : List ℕ → Argument
    OfNode : Reference → Argument

  -- the arguments of what made a node
  pub data Row : Type 0 where
    end_row : Row
    row : Argument → Row → Row

-- arguments as a row, and those of a row
abbrev pub row_of : List Argument → Row
row_of [] = end_row
row_of (x ∷ xs) = row x (row_of xs)

abbrev pub list_of : Row → List Argument
list_of end_row = []
list_of (row x xs) = x ∷ list_of xs

-- an attribute at a node with arguments, or a query
pub data Instance : Type 0 where
  Attribute : ℕ → Reference → List Argument → Instance
  Query : ℕ → Instance

-- what made a node; nothing made a source node
abbrev pub maker_of : NodeName → Option Instance
maker_of (Source k) = None
maker_of (Made a r xs q) = Some (Attribute a r (list_of xs))

-- the node of a position in the tree that an instance makes; a query makes none
abbrev pub made_by : Instance → ℕ → Reference
made_by (Attribute a r xs) q = At (Made a r (row_of xs) q)
made_by (Query n) q = Null

-- the writing of each, in front of what follows
abbrev pub truth_code : Bool → List ℕ → List ℕ
truth_code false rest = 0 ∷ rest
truth_code true rest = 1 ∷ rest

-- A negative integer lies so far below -1: the farther it does, the earlier it comes.
abbrev pub below_code : ℕ → List ℕ → List ℕ
below_code zero rest = 1 ∷ rest
below_code (suc n) rest = 0 ∷ below_code n rest

abbrev pub int_code : ℤ → List ℕ → List ℕ
int_code (negsuc n) rest = 0 ∷ below_code n rest
int_code (pos n) rest = 1 ∷ n ∷ rest

-- a text ends where no byte follows
abbrev pub text_code : List ℕ → List ℕ → List ℕ
text_code [] rest = 0 ∷ rest
text_code (b ∷ t) rest = suc b ∷ text_code t rest

-- A node that was made is written behind all source nodes: what made it, and then its position.
abbrev mutual
  pub node_code : NodeName → List ℕ → List ℕ
  node_code (Source k) rest = 1 ∷ k ∷ rest
  node_code (Made a r xs q) rest = 2 ∷ reference_code r (a ∷ row_code xs (q ∷ rest))

  pub reference_code : Reference → List ℕ → List ℕ
  reference_code Null rest = 0 ∷ rest
  reference_code (At n) rest = 1 ∷ node_code n rest

  pub argument_code : Argument → List ℕ → List ℕ
  argument_code (OfTruth b) rest = 0 ∷ truth_code b rest
  argument_code (OfInt z) rest = 1 ∷ int_code z rest
  argument_code (OfText t) rest = 2 ∷ text_code t rest
  argument_code (OfNode n) rest = 3 ∷ reference_code n rest

  pub row_code : Row → List ℕ → List ℕ
  row_code end_row rest = 0 ∷ rest
  row_code (row x xs) rest = 1 ∷ argument_code x (row_code xs rest)

abbrev pub arguments_code : List Argument → List ℕ → List ℕ
arguments_code [] rest = 0 ∷ rest
arguments_code (x ∷ xs) rest = 1 ∷ argument_code x (arguments_code xs rest)

abbrev pub instance_code : Instance → List ℕ → List ℕ
instance_code (Attribute a n xs) rest = 0 ∷ reference_code n (a ∷ arguments_code xs rest)
instance_code (Query q) rest = 1 ∷ q ∷ rest

-- the order of names
abbrev pub node_key : NodeName → List ℕ
node_key n = node_code n []

abbrev pub node_cmp : NodeName → NodeName → Ordering
node_cmp = on node_key (slice_cmp nat_cmp)

-- texts are ordered by their bytes
abbrev pub text_cmp : List ℕ → List ℕ → Ordering
text_cmp = slice_cmp nat_cmp

abbrev pub same_reference : Reference → Reference → Bool
same_reference a b = is_eq (slice_cmp nat_cmp (reference_code a []) (reference_code b []))

abbrev pub same_instance : Instance → Instance → Bool
same_instance i j = is_eq (slice_cmp nat_cmp (instance_code i []) (instance_code j []))
