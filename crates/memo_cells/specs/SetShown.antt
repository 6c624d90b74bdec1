-- What the words of a cell show, as a value.
use Rattle.std.specs.Prelude.{◌≡◌, ◌↔◌, ◌⊎◌, ◌<◌, ◌≤◌, ◌/◌, ◌%◌, ℕ, false, true, List}
use Rattle.std.specs.Int.{bit_at}
use Rattle.attr_rules.specs.declared.kinds.Kind.{Kind}
use Rattle.attr_rules.specs.Rules.{is_single}
use Rattle.code_sets.specs.Members.{has_code}
use Rattle.equation_law.specs.declared.coding.Instance.{Instance as CodedInstance}
use Rattle.equation_law.specs.declared.coding.Value.{Value as CodedValue}
use Rattle.equation_law.specs.Codes.{AreElements, value_by}
use Rattle.equation_law.specs.Equations.{HasValue, is_ordered, kind_in}
use Rattle.equation_law.specs.Names.{Instance}
use Rattle.equation_law.specs.Orders.{FitsKind}
use Rattle.equation_law.specs.Program.{Program}
use Rattle.equation_law.specs.Values.{Value, as_kind}
use Rattle.memo_cells.specs.declared.view.View.{View}
use Rattle.memo_cells.specs.Agreeing.{ByEachAgreeing, HasCodeAt, HaveCodesAt, IsElementAt, IsKnownValue}
use Rattle.memo_cells.specs.Naming.{IsCellOf}
use Rattle.memo_cells.specs.Showing.{ShowsAtLeast, ShowsAtMost, ShowsCode}
use Rattle.memo_cells.specs.Standing.{Knows}
use Rattle.memo_cells.specs.Working.{Held, program_at}

-- the code c lies in this word, from one code on, below another, and has its bit there
pub record IsInWord (word bits from to c : ℕ) : Type 0 where
  pub lies : c / 64 ≡ word
  pub least : from ≤ c
  pub below : c < to
  pub bit : bit_at bits (c % 64) ≡ 1

-- the bits of a word that stand for codes below one
abbrev pub AreBelow : ℕ → ℕ → ℕ → Type 0
AreBelow word code bits = (c : ℕ) → c / 64 ≡ word → (bit_at bits (c % 64) ≡ 1) ↔ (c < code)

-- the codes of a set, with those that are in the word
pub record AddsWord (word bits from to : ℕ) (before after : List ℕ) : Type 0 where
  pub kept : (c : ℕ) → has_code before c ≡ true → has_code after c ≡ true
  pub added : (c : ℕ) → IsInWord word bits from to c → has_code after c ≡ true
  pub only : (c : ℕ) → has_code after c ≡ true → (has_code before c ≡ true) ⊎ IsInWord word bits from to c

-- the elements of the value of i have codes, and those from one code on, below another, are among these
pub record AreSettledCodes (p : Program) (ms : List CodedInstance) (i : Instance) (from to : ℕ) (cs : List ℕ) : Type 0 where
  pub value : Value
  pub has : HasValue p i value
  pub elements : HaveCodesAt p ms (kind_in p i) value
  pub all : (c : ℕ) → from ≤ c → c < to → IsElementAt p ms (kind_in p i) c → HasCodeAt p ms (kind_in p i) value c → has_code cs c ≡ true

-- These codes lie from one code on, below another, and the words of i show each. All such codes are among them that the words showed before, and where i
-- was seen settled, all those of its value.
pub record AreCodesShown (p : Program) (before now : View) (i : Instance) (from to : ℕ) (cs : List ℕ) : Type 0 where
  pub least : (c : ℕ) → has_code cs c ≡ true → from ≤ c
  pub below : (c : ℕ) → has_code cs c ≡ true → c < to
  pub shown : (c : ℕ) → has_code cs c ≡ true → ShowsCode p now i c
  pub all : (c : ℕ) → from ≤ c → c < to → ShowsCode p before i c → has_code cs c ≡ true
  pub settled : Knows p before i → AreSettledCodes p before.made i from to cs

-- By each naming that agrees with the pass then the value x is of the type of i, at least what the words showed before, and at most what they show now. Where the pass knew i as settled before, it is the
-- value in the solution.
pub record IsShownValue (p : Program) (before now : View) (i : Instance) (x : CodedValue) : Type 0 where
  pub elements : AreElements p x
  pub known : IsKnownValue now.made x
  pub fits : ByEachAgreeing p now.made (λ n. FitsKind (kind_in p i) (value_by n x))
  pub shown : ByEachAgreeing p now.made (λ n. ShowsAtLeast p now i (kind_in p i) (value_by n x))
  pub all : ByEachAgreeing p now.made (λ n. ShowsAtMost p before i (kind_in p i) (value_by n x))
  pub settled : Knows p before i → (w : Value) × HasValue p i w × ByEachAgreeing p now.made (λ n. value_by n x ≡ as_kind (kind_in p i) w)

-- they are the codes shown of a set that has its cell at this place, with what is held before and after
abbrev pub AreCodesShownAt : Held → Held → ℕ → ℕ → ℕ → List ℕ → Type 0
AreCodesShownAt d e place from to cs = (i : Instance) → IsCellOf (program_at d) d.frame d.view i place → is_single (kind_in (program_at d) i) ≡ false → AreCodesShown (program_at d) d.view e.view i from to cs

-- it is the value shown of what has its cell at this place and is a set or a truth value, if it is of this type
abbrev pub IsShownValueAt : Held → Held → ℕ → Kind → CodedValue → Type 0
IsShownValueAt d e place kind x = (i : Instance) → IsCellOf (program_at d) d.frame d.view i place → kind_in (program_at d) i ≡ kind → is_ordered kind ≡ true → IsShownValue (program_at d) d.view e.view i x
