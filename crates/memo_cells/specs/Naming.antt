-- What a key word stands for: an instance, or one with the first of its arguments.
use Rattle.std.specs.Prelude.{◌≡◌, ℕ, ◌<◌, ◌^◌, ◌/◌, List, [], ◌∷◌, ◌++◌, ◌⊎◌, reverse}
use Rattle.equation_law.specs.declared.coding.Instance.{Instance as CodedInstance}
use Rattle.equation_law.specs.declared.coding.Instance.TheVariants as coded
use Rattle.equation_law.specs.Checked.{IsInstance}
use Rattle.equation_law.specs.Codes.{AreCodes, codes_in}
use Rattle.equation_law.specs.Equations.{kind_in}
use Rattle.equation_law.specs.Keys.{IsPrefix}
use Rattle.equation_law.specs.Names.{Argument, Attribute, Instance, Query, Reference}
use Rattle.equation_law.specs.Program.{Program, attribute_parameters}
use Rattle.memo_cells.specs.declared.view.Frame.{Frame}
use Rattle.memo_cells.specs.declared.view.View.{View}
use Rattle.memo_cells.specs.Agreeing.{AreArgumentCodesAt, AreKnownCodes, IsElementAt, IsKnownNode, IsReferenceAt}
use Rattle.memo_cells.specs.Keys.{argument_word, attribute_word, query_word, set_word}
use Rattle.memo_cells.specs.Views.{Has, IsFull, IsSlot, times}

-- k is the key word of the attribute a at the node of code n with arguments of these codes, the last one first: with an argument, it names
-- the slot of what comes before that argument
abbrev pub IsNamed : View → ℕ → ℕ → ℕ → List ℕ → Type 0
IsNamed v k a n [] = (a < 2 ^ 16) × (n < 2 ^ 32) × (k ≡ attribute_word a n)
IsNamed v k a n (c ∷ cs) = (s j : ℕ) × Has v.keys (s, j) × IsNamed v j a n cs × (s < 2 ^ 29) × (c < 2 ^ 32) × (k ≡ argument_word s c)

-- k is a key word on the way to the cell of a coded instance, by its codes alone: it has the first of those of its arguments
abbrev pub IsWayKey : View → CodedInstance → ℕ → Type 0
IsWayKey v (coded.Attr a n xs) k = (front behind : List ℕ) × (front ++ behind ≡ codes_in xs) × IsNamed v k a.0 n.0 (reverse front)
IsWayKey v (coded.Query q) k = (q.0 < 2 ^ 32) × (k ≡ query_word q.0)

-- k is the key word of the attribute a at the node r with the arguments xs, for which its codes stand, and the pass knows these codes
pub record IsAttributeKey (p : Program) (v : View) (k a : ℕ) (r : Reference) (xs : List Argument) : Type 0 where
  pub node : ℕ
  pub codes : List ℕ
  pub at : IsReferenceAt p v.made node r
  pub good : AreCodes p (attribute_parameters p a) codes
  pub arguments : AreArgumentCodesAt p v.made (attribute_parameters p a) codes xs
  pub known : IsKnownNode v.made node × AreKnownCodes v.made (attribute_parameters p a) codes
  pub named : IsNamed v k a node (reverse codes)

-- k is the key word of i, by the keys that are seen claimed
abbrev pub StandsFor : Program → View → ℕ → Instance → Type 0
StandsFor p v k (Attribute a r xs) = IsAttributeKey p v k a r xs
StandsFor p v k (Query q) = (q < 2 ^ 32) × (k ≡ query_word q)

-- it is a key on the way to the cell of i, the key of i included
pub record IsKeyTo (p : Program) (v : View) (i : Instance) (k : ℕ) : Type 0 where
  pub prefix : Instance
  pub of : IsPrefix prefix i
  pub stands : StandsFor p v k prefix

-- it is a key on the way to the cell of an instance of the program
pub record IsFormedKey (p : Program) (v : View) (k : ℕ) : Type 0 where
  pub of : Instance
  pub instance : IsInstance p of
  pub key : IsKeyTo p v of k

-- k is the key of the w-th word of the set of i
pub record IsWordOf (p : Program) (v : View) (k : ℕ) (i : Instance) (w : ℕ) : Type 0 where
  pub slot : ℕ
  pub key : ℕ
  pub there : Has v.keys (slot, key)
  pub stands : StandsFor p v key i
  pub low : slot < 2 ^ 29
  pub small : w < 2 ^ 32
  pub is : k ≡ set_word slot w

-- it is the key of a word of the set of an instance of the program, in which the code of an element of its type lies
pub record IsFormedWord (p : Program) (v : View) (k : ℕ) : Type 0 where
  pub of : Instance
  pub instance : IsInstance p of
  pub word : ℕ
  pub key : IsWordOf p v k of word
  pub code : ℕ
  pub element : IsElementAt p v.made (kind_in p of) code
  pub lies : code / 64 ≡ word

-- it is the key of a cell of the program
abbrev pub IsFormed : Program → View → ℕ → Type 0
IsFormed p v k = IsFormedKey p v k ⊎ IsFormedWord p v k

-- the cell of i is seen claimed at place s
abbrev pub IsCellOf : Program → Frame → View → Instance → ℕ → Type 0
IsCellOf p f v i s = (k : ℕ) × IsSlot f v s k × StandsFor p v k i

-- k is the key word by which the way to i begins
abbrev pub IsFirstKey : Instance → ℕ → Type 0
IsFirstKey (Attribute a r xs) k = (a < 2 ^ 16) × ((n : ℕ) × (n < 2 ^ 32) × (k ≡ attribute_word a n))
IsFirstKey (Query q) k = (q < 2 ^ 32) × (k ≡ query_word q)

-- what a call claimed are cells on the way to that of i
abbrev pub ClaimsKeysTo : Program → View → View → Instance → Type 0
ClaimsKeysTo p v w i = (s : ℕ) → (times s w.claims ≡ times s v.claims) ⊎ ((k : ℕ) × Has w.keys (s, k) × IsKeyTo p w i k)

-- other keys have all the cells than some key on the way to that of i
abbrev pub LacksCell : Program → Frame → View → Instance → Type 0
LacksCell p f v i = (k : ℕ) × IsKeyTo p v i k × IsFull f v k
