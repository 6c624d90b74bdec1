-- What the instances of a set lead to, and the cells that they need: one for each instance to which they lead, one for each of the first of
-- its arguments, one for each word of its set in which a text or a source node lies, and one for each other node in it. A set of instances is a test of membership.
use Rattle.std.specs.Prelude.{◌≡◌, ℕ, true, ◌<◌, ◌/◌, ◌⊎◌, List, [], ◌∷◌, ◌++◌, length}
use Rattle.attr_rules.specs.declared.kinds.Kind.{Kind}
use Rattle.attr_rules.specs.declared.kinds.Kind.TheVariants as kinds
use Rattle.equation_law.specs.Checked.{IsNodeOf}
use Rattle.equation_law.specs.Codes.{ByEachNaming, IsReference, reference_by}
use Rattle.equation_law.specs.Equations.{HasValue, equations_of, kind_in}
use Rattle.equation_law.specs.Loops.{Chain}
use Rattle.equation_law.specs.Lower.{IsLower}
use Rattle.equation_law.specs.Names.{Argument, At, Attribute, Instance, Made, NodeName, Query, Reference, Row, Source}
use Rattle.equation_law.specs.Program.{Program, text_of}
use Rattle.equation_law.specs.Sets.{has}
use Rattle.equation_law.specs.Values.{Value, has_node, nodes, texts}

-- an instance with more arguments, which come last
abbrev pub with_more : Instance → List Argument → Instance
with_more (Attribute a r xs) zs = Attribute a r (xs ++ zs)
with_more (Query q) zs = Query q

-- x is i with the first of its arguments: with none of them, some, or all
abbrev pub IsPrefix : Instance → Instance → Type 0
IsPrefix x i = (zs : List Argument) × (with_more x zs ≡ i)

-- what has a cell of its own: an instance or one with the first of its arguments, one word of the set of an instance, or a node in that set
pub data Part : Type 0 where
  Prefix : Instance → Part
  Word : Instance → ℕ → Part
  Member : Instance → NodeName → Part

-- the code of a text of the program, or one that is tied to a node of the class
abbrev pub IsElementCode : Program → Kind → ℕ → Type 0
IsElementCode p kinds.Truth c = ⊥
IsElementCode p kinds.Int c = ⊥
IsElementCode p kinds.Text c = ⊥
IsElementCode p (kinds.Node d) c = ⊥
IsElementCode p kinds.Texts c = c < length p.texts
IsElementCode p (kinds.Nodes d) c = (0 < c) × ((r : Reference) × IsReference p c r × IsNodeOf p d r)

-- the text of this code is in the set, or the node for which it stands by each naming
abbrev pub HasCode : Program → Kind → Value → ℕ → Type 0
HasCode p kinds.Truth x c = ⊥
HasCode p kinds.Int x c = ⊥
HasCode p kinds.Text x c = ⊥
HasCode p (kinds.Node d) x c = ⊥
HasCode p kinds.Texts x c = has (texts x) (text_of p c) ≡ true
HasCode p (kinds.Nodes d) x c = ByEachNaming p (λ n. has_node (nodes x) (reference_by n.node c) ≡ true)

-- a set in which the element of code c lies counts for i: its value in the solution, or one that it has under a lower assignment
abbrev pub HasElement : Program → Instance → ℕ → Type 0
HasElement p i c = ((x : Value) × HasValue p i x × HasCode p (kind_in p i) x c) ⊎ ((T : Instance → Value) × IsLower p T × ((equations_of p).circular i ≡ true) × HasCode p (kind_in p i) (T i) c)

-- such an element lies in the word w of the set of i: a word has 64 codes
pub record HasElementIn (p : Program) (i : Instance) (w : ℕ) : Type 0 where
  pub code : ℕ
  pub element : IsElementCode p (kind_in p i) code
  pub within : HasElement p i code
  pub lies : code / 64 ≡ w

-- a node of a tree that was made
abbrev pub IsMade : NodeName → Type 0
IsMade (Source k) = ⊥
IsMade (Made a r xs q) = Unit {0}

-- the node is of the type of the elements, and in the set
abbrev pub HasNode : Program → Kind → Value → NodeName → Type 0
HasNode p kinds.Truth x m = ⊥
HasNode p kinds.Int x m = ⊥
HasNode p kinds.Text x m = ⊥
HasNode p (kinds.Node d) x m = ⊥
HasNode p kinds.Texts x m = ⊥
HasNode p (kinds.Nodes d) x m = IsNodeOf p d (At m) × (has (nodes x) m ≡ true)

-- it was made, and a set in which it lies counts for i
pub record HasMember (p : Program) (i : Instance) (m : NodeName) : Type 0 where
  pub made : IsMade m
  pub within : ((x : Value) × HasValue p i x × HasNode p (kind_in p i) x m) ⊎ ((T : Instance → Value) × IsLower p T × ((equations_of p).circular i ≡ true) × HasNode p (kind_in p i) (T i) m)

-- the set of this instance alone
abbrev pub IsJust : Instance → Instance → Type 0
IsJust i j = j ≡ i

-- the set of all queries of the program
abbrev pub IsAsked : Program → Instance → Type 0
IsAsked p (Attribute a r xs) = ⊥
IsAsked p (Query q) = q < length p.queries

-- an instance of the set leads to j in none or more steps
abbrev pub IsReached : Program → (Instance → Type 0) → Instance → Type 0
IsReached p Q j = (i : Instance) × Q i × Chain p i j

-- x is a key of the set: one to which the set leads, or that with the first of its arguments, a word of its set in which a text or a source node lies, or
-- another node in it
abbrev pub IsKey : Program → (Instance → Type 0) → Part → Type 0
IsKey p Q (Prefix x) = (j : Instance) × IsPrefix x j × IsReached p Q j
IsKey p Q (Word j w) = IsReached p Q j × HasElementIn p j w
IsKey p Q (Member j m) = IsReached p Q j × HasMember p j m

-- x is one of these
abbrev pub IsAmong : {X : Type 0} → List X → X → Type 0
IsAmong [] x = ⊥
IsAmong (y ∷ ys) x = (x ≡ y) ⊎ IsAmong ys x

abbrev pub AreDifferent : {X : Type 0} → List X → Type 0
AreDifferent [] = Unit {0}
AreDifferent (x ∷ xs) = (IsAmong xs x → ⊥) × AreDifferent xs

-- the set has more keys than n
pub record HasMoreKeys (p : Program) (Q : Instance → Type 0) (n : ℕ) : Type 0 where
  pub keys : List Part
  pub different : AreDifferent keys
  pub are : (x : Part) → IsAmong keys x → IsKey p Q x
  pub many : n < length keys
