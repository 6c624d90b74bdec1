-- What a pass knows of instances.
use Rattle.std.specs.Prelude.{◌≡◌, ◌⊎◌, ℕ, Bool, true, false, List, Option, Some, None, Result, Ok, Err}
use Rattle.attr_rules.specs.Rules.{is_single}
use Rattle.rag_io.specs.declared.Memory.{Memory}
use Rattle.solutions.specs.Asking.{Ends, Halts}
use Rattle.equation_law.specs.declared.coding.Instance.{Instance as CodedInstance}
use Rattle.equation_law.specs.declared.coding.Value.{Value as CodedValue}
use Rattle.equation_law.specs.Codes.{AreElements, IsCoded, Naming, instance_by, value_by}
use Rattle.equation_law.specs.Equations.{equations_of, kind_in}
use Rattle.equation_law.specs.Names.{Instance}
use Rattle.equation_law.specs.Program.{Program}
use Rattle.equation_law.specs.Values.{Value, as_kind}
use Rattle.expr_eval.specs.declared.sites.Turn.{Turn}
use Rattle.expr_eval.specs.declared.sites.Turn.TheVariants as turns
use Rattle.memo_cells.specs.declared.keys.Slot.{Slot}
use Rattle.memo_cells.specs.declared.view.Frame.{Frame}
use Rattle.memo_cells.specs.declared.view.View.{View}
use Rattle.memo_cells.specs.Agreeing.{ByEachAgreeing, IsKnownInstance, IsKnownValue as HasKnownNodes}
use Rattle.memo_cells.specs.Causes.{WhyMissing, WhyUnsettled}
use Rattle.memo_cells.specs.Naming.{IsCellOf, IsWayKey, StandsFor}
use Rattle.memo_cells.specs.Standing.{Knows}
use Rattle.memo_cells.specs.Views.{Has, IsSlot}
use Rattle.memo_cells.specs.Working.{IsKnown}

-- by a naming x is the code of the value of i, read at its type, and its cell is seen settled; the elements of a set are coded well, and the pass knows the
-- nodes in it
pub record IsKnownValue (p : Program) (names : Naming) (v : View) (i : Instance) (x : CodedValue) : Type 0 where
  pub value : Value
  pub known : IsKnown p v i value
  pub coded : value_by names x ≡ as_kind (kind_in p i) value
  pub elements : AreElements p x
  pub nodes : HasKnownNodes v.made x

-- so it is by each naming that agrees with the pass of an instance that is coded well
abbrev pub IsReadValue : Program → View → CodedInstance → CodedValue → Type 0
IsReadValue p v i x = IsCoded p i → ByEachAgreeing p v.made (λ names. IsKnownValue p names v (instance_by p names i) x)

-- by each naming that agrees with the pass the cell of an instance that is coded well is the one at this slot, and is seen settled
abbrev pub IsKnownAt : Program → Frame → View → CodedInstance → Slot → Type 0
IsKnownAt p f v i slot = IsCoded p i → ByEachAgreeing p v.made (λ names. IsCellOf p f v (instance_by p names i) slot.0 × Knows p v (instance_by p names i))

-- the cell of i is seen settled with this code at this slot
pub record IsSettledAt (p : Program) (f : Frame) (v : View) (i : Instance) (slot code : ℕ) : Type 0 where
  pub key : ℕ
  pub there : IsSlot f v slot key
  pub stands : StandsFor p v key i
  pub settled : Has v.values (slot, key, code)

-- where the cell of i is seen settled, if it is
abbrev pub FindsCode : Program → Frame → View → Instance → Option (Slot × ℕ) → Type 0
FindsCode p f v i (Some (slot, code)) = IsSettledAt p f v i slot.0 code
FindsCode p f v i None = ¬ Knows p v i

-- why i isn't known: a key on the way to its cell wasn't found, or its value word, as loaded in this call, wasn't settled
abbrev pub WhyUnknown : Program → Frame → View → View → CodedInstance → Type 0
WhyUnknown p f v w i = ((k : ℕ) × IsWayKey w i k × WhyMissing f v w k) ⊎ ((s : ℕ) × ByEachAgreeing p w.made (λ names. IsCellOf p f w (instance_by p names i) s) × WhyUnsettled f v w s)

-- whether the instance whose cell is the one at this slot is settled, by a load of its value word: `v` is what was known before, and `w` what is known
abbrev pub TellsSettled : Program → Frame → View → View → ℕ → Bool → Type 0
TellsSettled p f v w slot true = (i : Instance) → IsCellOf p f v i slot → Knows p w i
TellsSettled p f v w slot false = (i : Instance) → IsCellOf p f v i slot → ¬ Knows p w i

-- By a naming the value of i, if its cell is seen settled. Only that of a set takes memory.
abbrev pub FindsValue : Program → Naming → View → Instance → Result (Option CodedValue) Memory → Type 0
FindsValue p names v i (Ok (Some x)) = IsKnownValue p names v i x
FindsValue p names v i (Ok None) = ¬ Knows p v i
FindsValue p names v i (Err m) = is_single (kind_in p i) ≡ false

-- the equation of i ended with what is this value by a naming, the elements of which are coded well; the pass knows the nodes in it
pub record HasEnded (p : Program) (names : Naming) (v : View) (i : Instance) (x : CodedValue) : Type 0 where
  pub demands : List Instance
  pub ends : Ends (IsKnown p v) ((equations_of p).equation i) (value_by names x) demands
  pub elements : AreElements p x
  pub nodes : HasKnownNodes v.made x

-- What the equation of i comes to under what the pass knows: its value, or the first demand whose cell isn't seen settled, of which the pass knows the
-- nodes. A program of cells makes no trees.
abbrev pub TurnsTo : Program → Naming → View → Instance → Result Turn Memory → Type 0
TurnsTo p names v i (Ok (turns.Done x)) = HasEnded p names v i x
TurnsTo p names v i (Ok (turns.Need j)) = (ds : List Instance) × Halts (IsKnown p v) ((equations_of p).equation i) (instance_by p names j) ds × IsCoded p j × IsKnownInstance p v.made j
TurnsTo p names v i (Ok (turns.Image t)) = ⊥
TurnsTo p names v i (Err m) = Unit {0}
