-- Which key words are those of what a set of instances needs, and what was claimed of them.
use Rattle.std.specs.Prelude.{◌≡◌, ℕ, true, ◌/◌, ◌⊎◌, List}
use Rattle.attr_rules.specs.declared.kinds.Kind.{Kind}
use Rattle.equation_law.specs.declared.coding.Instance.{Instance as CodedInstance}
use Rattle.equation_law.specs.Equations.{HasValue, equations_of}
use Rattle.equation_law.specs.Lower.{IsLower}
use Rattle.equation_law.specs.Keys.{IsJust, IsKey, Member, Part, Prefix, Word}
use Rattle.equation_law.specs.Names.{At, Instance, NodeName}
use Rattle.equation_law.specs.Program.{Program}
use Rattle.equation_law.specs.Values.{Value}
use Rattle.memo_cells.specs.declared.view.Frame.{Frame}
use Rattle.memo_cells.specs.declared.view.View.{View}
use Rattle.memo_cells.specs.Agreeing.{HasCodeAt, IsKnownNode, IsReferenceAt}
use Rattle.memo_cells.specs.Naming.{IsWordOf, StandsFor}
use Rattle.memo_cells.specs.Views.{Has, IsFull, times}

-- k is the key word of the word of the set of i in which the code of the node m lies
pub record IsKeyOfMember (p : Program) (v : View) (k : ℕ) (i : Instance) (m : NodeName) : Type 0 where
  pub code : ℕ
  pub at : IsReferenceAt p v.made code (At m)
  pub known : IsKnownNode v.made code
  pub word : IsWordOf p v k i (code / 64)

-- k is the key word of x
abbrev pub IsKeyOfPart : Program → View → ℕ → Part → Type 0
IsKeyOfPart p v k (Prefix x) = StandsFor p v k x
IsKeyOfPart p v k (Word i w) = IsWordOf p v k i w
IsKeyOfPart p v k (Member i m) = IsKeyOfMember p v k i m

-- k is the key word of a key of the set
abbrev pub IsKeyOf : Program → View → (Instance → Type 0) → ℕ → Type 0
IsKeyOf p v Q k = (x : Part) × IsKeyOfPart p v k x × IsKey p Q x

-- what was claimed are cells of keys of the set
abbrev pub ClaimsKeysOf : Program → (Instance → Type 0) → View → View → Type 0
ClaimsKeysOf p Q v w = (s : ℕ) → (times s w.claims ≡ times s v.claims) ⊎ ((k : ℕ) × Has w.keys (s, k) × IsKeyOf p w Q k)

-- other keys have all the cells than some key of the set
abbrev pub FillsCellsOf : Program → (Instance → Type 0) → Frame → View → Type 0
FillsCellsOf p Q f v = (k : ℕ) × IsKeyOf p v Q k × IsFull f v k

-- what was claimed are cells of keys of i
abbrev pub ClaimsKeys : Program → Instance → View → View → Type 0
ClaimsKeys p i v w = ClaimsKeysOf p (IsJust i) v w

-- other keys have all the cells than some key of i
abbrev pub FillsCells : Program → Instance → Frame → View → Type 0
FillsCells p i f v = FillsCellsOf p (IsJust i) f v

-- an element of this code lies in a set that counts for i: its value in the solution, or one that it has under a lower assignment
abbrev pub CountsCode : Program → List CodedInstance → Instance → Kind → ℕ → Type 0
CountsCode p ms i k c = ((x : Value) × HasValue p i x × HasCodeAt p ms k x c) ⊎ ((T : Instance → Value) × IsLower p T × ((equations_of p).circular i ≡ true) × HasCodeAt p ms k (T i) c)
