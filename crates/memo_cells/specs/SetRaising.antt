-- Raising the words of a set.
use Rattle.std.specs.Prelude.{◌≡◌, ◌⊎◌, ◌<◌, ◌≤◌, ℕ, ◌/◌, ◌%◌, List, [], Some, length, slice_get, take}
use Rattle.std.specs.Int.{bit_at}
use Rattle.equation_law.specs.declared.coding.Value.{Value as CodedValue}
use Rattle.equation_law.specs.declared.coding.Value.TheVariants as coded
use Rattle.equation_law.specs.Checked.{IsInstance}
use Rattle.equation_law.specs.Equations.{kind_in}
use Rattle.equation_law.specs.Names.{Instance}
use Rattle.equation_law.specs.Program.{Program}
use Rattle.equation_law.specs.Values.{Value}
use Rattle.memo_cells.specs.declared.view.Frame.{Frame}
use Rattle.memo_cells.specs.declared.view.View.{View}
use Rattle.memo_cells.specs.Agreeing.{HasCodeAt, IsElementAt}
use Rattle.memo_cells.specs.Naming.{IsCellOf, IsWordOf}
use Rattle.memo_cells.specs.Showing.{ShowsCode}
use Rattle.memo_cells.specs.Standing.{MayShow}
use Rattle.memo_cells.specs.Views.{Has, IsFull, times}
use Rattle.memo_cells.specs.Working.{Held, program_at}

-- the codes of the elements of a set; another value has none
abbrev pub set_codes : CodedValue → List ℕ
set_codes (coded.Truth b) = []
set_codes (coded.Int z) = []
set_codes (coded.Text n) = []
set_codes (coded.Node n) = []
set_codes (coded.Texts cs) = cs
set_codes (coded.Nodes cs) = cs

-- these codes are those of elements of a value that the words of the instance i of this cell may show
pub record MayShowAll (p : Program) (f : Frame) (v : View) (i : Instance) (place : ℕ) (codes : List ℕ) : Type 0 where
  pub cell : IsCellOf p f v i place
  pub instance : IsInstance p i
  pub value : Value
  pub may : MayShow p v i value
  pub elements : (c : ℕ) → Has codes c → IsElementAt p v.made (kind_in p i) c × HasCodeAt p v.made (kind_in p i) value c

-- the words of i show all of them
abbrev pub ShowsAll : Program → View → Instance → List ℕ → Type 0
ShowsAll p v i codes = (c : ℕ) → Has codes c → ShowsCode p v i c

-- k is the key of a word of the set of i, in which one of these codes lies
pub record IsWordWith (p : Program) (v : View) (i : Instance) (codes : List ℕ) (k : ℕ) : Type 0 where
  pub word : ℕ
  pub key : IsWordOf p v k i word
  pub code : ℕ
  pub among : Has codes code
  pub lies : code / 64 ≡ word

-- what was claimed are cells of such words
abbrev pub ClaimsWords : Program → View → View → Instance → List ℕ → Type 0
ClaimsWords p v w i codes = (q : ℕ) → (times q w.claims ≡ times q v.claims) ⊎ ((k : ℕ) × Has w.keys (q, k) × IsWordWith p w i codes k)

-- other keys have all the cells than such a word
abbrev pub LacksWord : Program → Frame → View → Instance → List ℕ → Type 0
LacksWord p f v i codes = (k : ℕ) × IsWordWith p v i codes k × IsFull f v k

-- an instance of this cell may show all of them, by what is held
abbrev pub MayShowAllAt : Held → ℕ → List ℕ → Type 0
MayShowAllAt d place codes = (i : Instance) × MayShowAll (program_at d) d.frame d.view i place codes

-- where an instance of this cell might show all of them, by what was held before, its words show them now
abbrev pub ShowsAllAt : Held → Held → ℕ → List ℕ → Type 0
ShowsAllAt d e place codes = (i : Instance) → MayShowAll (program_at d) d.frame d.view i place codes → ShowsAll (program_at e) e.view i codes

-- other keys have all the cells now than a word of such an instance in which one of them lies
abbrev pub LacksWordAt : Held → Held → ℕ → List ℕ → Type 0
LacksWordAt d e place codes = (i : Instance) → MayShowAll (program_at d) d.frame d.view i place codes → LacksWord (program_at e) e.frame e.view i codes

-- what was claimed since are cells of words of such an instance in which they lie
abbrev pub ClaimsWordsAt : Held → Held → ℕ → List ℕ → Type 0
ClaimsWordsAt d e place codes = (i : Instance) → MayShowAll (program_at d) d.frame d.view i place codes → ClaimsWords (program_at e) d.view e.view i codes

-- the first of these codes, so many, all lie in one word, and have these bits in it
pub record HasBits (codes : List ℕ) (count bits : ℕ) : Type 0 where
  pub some : 0 < count
  pub within : count ≤ length codes
  pub one_word : (c : ℕ) → Has (take count codes) c → (x : ℕ) × (slice_get codes 0 ≡ Some x) × (c / 64 ≡ x / 64)
  pub set : (c : ℕ) → Has (take count codes) c → bit_at bits (c % 64) ≡ 1
  pub only : (b : ℕ) → bit_at bits b ≡ 1 → (c : ℕ) × Has (take count codes) c × (c % 64 ≡ b)
