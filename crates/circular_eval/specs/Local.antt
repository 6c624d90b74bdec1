-- Local sets: what they stand for.
use Rattle.std.specs.Prelude.{◌≡◌, ℕ, zero, suc, ◌<◌, true, false, cond, List, [], ◌∷◌, Option, Some, None, slice_get}
use Rattle.rag_io.specs.Pool.{ArePooled}
use Rattle.solutions.specs.Asking.{Ends}
use Rattle.equation_law.specs.declared.coding.Instance.{Instance as CodedInstance}
use Rattle.equation_law.specs.declared.coding.Value.{Value as CodedValue}
use Rattle.equation_law.specs.declared.system.System.{System}
use Rattle.equation_law.specs.Checked.{IsInstance}
use Rattle.equation_law.specs.Codes.{AreElements, ByEachNaming, IsCoded, Naming, instance_by, value_by}
use Rattle.equation_law.specs.Equations.{HasValue, bottom_of, equations_of, is_declared, kind_in}
use Rattle.equation_law.specs.Loops.{Leads, order_in}
use Rattle.equation_law.specs.Names.{Instance, same_instance}
use Rattle.equation_law.specs.Orders.{FitsKind}
use Rattle.equation_law.specs.Program.{Program}
use Rattle.equation_law.specs.Reading.{Told}
use Rattle.equation_law.specs.Values.{Value}
use Rattle.expr_eval.specs.declared.saved.Saved.{Saved}
use Rattle.expr_eval.specs.Saved.{AreSaved}
use Rattle.memo_cells.specs.declared.keys.Slot.{Slot}
use Rattle.memo_cells.specs.declared.view.Frame.{Frame}
use Rattle.memo_cells.specs.declared.view.View.{View}
use Rattle.memo_cells.specs.Agreeing.{Agrees, ByEachAgreeing, IsKnownInstance, IsKnownNode, IsKnownValue}
use Rattle.memo_cells.specs.Naming.{IsCellOf}
use Rattle.memo_cells.specs.Standing.{IsShown, Knows}
use Rattle.memo_cells.specs.Views.{Has}
use Rattle.memo_cells.specs.Working.{Held, IsKnown, program_at}
use Rattle.circular_eval.specs.declared.local.Local.{Local}
use Rattle.circular_eval.specs.declared.members.Member.{Member}

abbrev pub Members : Type 0
Members = List (CodedInstance × Member)

-- the value that the set has for i, by a naming: that of the member, and the one with which it starts where i is none
abbrev pub local_value : Program → Naming → Members → Instance → Value
local_value p names [] i = bottom_of p i
local_value p names (e ∷ es) i = cond (same_instance i (instance_by p names e.0)) (value_by names e.1.value) (local_value p names es i)

-- the members, where the one of this number has another value
abbrev pub with_value : Members → ℕ → CodedValue → Members
with_value [] n x = []
with_value (e ∷ es) zero x = (e.0, record { slot = e.1.slot; value = x; by = e.1.by }) ∷ es
with_value (e ∷ es) (suc n) x = e ∷ with_value es n x

-- the members and their values are coded well, and by this naming the values are of the types of the members
abbrev pub AreKept : Program → Naming → Members → Type 0
AreKept p names es = (e : CodedInstance × Member) → Has es e → IsCoded p e.0 × AreElements p e.1.value × FitsKind (kind_in p (instance_by p names e.0)) (value_by names e.1.value)

-- the nodes of the members and those in their values are known by these makers
abbrev pub AreKnownMembers : Program → List CodedInstance → Members → Type 0
AreKnownMembers p ms es = (e : CodedInstance × Member) → Has es e → IsKnownInstance p ms e.0 × IsKnownValue ms e.1.value

-- both, by each naming that agrees with them
abbrev pub AreReadable : Program → List CodedInstance → Members → Type 0
AreReadable p ms es = ByEachAgreeing p ms (λ names. AreKept p names es) × AreKnownMembers p ms es

-- what holds by each naming for each program with pooled texts in which i is coded well and the members are kept
abbrev pub WhereKept : Members → CodedInstance → (Program → Naming → Type 0) → Type 0
WhereKept es i holds = (p : Program) → ArePooled p.texts → IsCoded p i → ByEachNaming p (λ names. AreKept p names es → holds p names)

-- x is the value that the set has for i
abbrev pub IsLocalValue : Program → Naming → Members → CodedInstance → CodedValue → Type 0
IsLocalValue p names es i x = local_value p names es (instance_by p names i) ≡ value_by names x

-- j is a member
abbrev pub IsMemberOf : Program → Naming → Members → Instance → Type 0
IsMemberOf p names es j = (e : CodedInstance × Member) × Has es e × (instance_by p names e.0 ≡ j)

-- the members are members still, with their values
pub record StillMembers (p : Program) (names : Naming) (es fs : Members) : Type 0 where
  pub members : (j : Instance) → IsMemberOf p names es j → IsMemberOf p names fs j
  pub values : (j : Instance) → IsMemberOf p names es j → local_value p names fs j ≡ local_value p names es j

-- an instance that is no member
abbrev pub IsAbsent : Members → CodedInstance → Type 0
IsAbsent es i = (e : CodedInstance × Member) → Has es e → e.0 ≡ i → ⊥

-- what an equation may read: of undeclared instances values of the solution, and of circular ones the values of the set
pub data MayRead (p : Program) (names : Naming) (es : Members) : Instance → Value → Type 0 where
  solved : {j : Instance} {w : Value} → is_declared p j ≡ false → HasValue p j w → MayRead p names es j w
  present : {j : Instance} → is_declared p j ≡ true → MayRead p names es j (local_value p names es j)

-- what it reads: undeclared instances that are seen settled, and members
pub data ReadsHere (p : Program) (names : Naming) (v : View) (es : Members) : Instance → Value → Type 0 where
  settled : {j : Instance} {w : Value} → is_declared p j ≡ false → IsKnown p v j w → ReadsHere p names v es j w
  here : {j : Instance} → is_declared p j ≡ true → IsMemberOf p names es j → ReadsHere p names v es j (local_value p names es j)

-- both by each naming that agrees with what is known
abbrev pub MayReadByEach : Program → List CodedInstance → Members → Instance → Value → Type 0
MayReadByEach p ms es j w = ByEachAgreeing p ms (λ names. MayRead p names es j w)

abbrev pub ReadsByEach : Program → View → Members → Instance → Value → Type 0
ReadsByEach p v es j w = ByEachAgreeing p v.made (λ names. ReadsHere p names v es j w)

-- a reader of that alone, which may be read by each naming that agrees with what the pass knows, and which knows the nodes that the pass knows
abbrev pub reads_here : Program → View → Members → Told Unit
reads_here p v es = record { for = λ q. q ≡ p; has = ReadsByEach p v es; can = MayReadByEach p v.made es; keeps = λ u. Unit {0}; names = Agrees p v.made; knows = IsKnownNode v.made; height = λ c. c }

-- the number of a member, which is j
pub record IsNumberOf (p : Program) (names : Naming) (es : Members) (j : Instance) (number : ℕ) : Type 0 where
  pub entry : CodedInstance × Member
  pub at : slice_get es number ≡ Some entry
  pub is : instance_by p names entry.0 ≡ j

-- the equation of i comes to at most the value that the set has for it, and all that it reads are members or seen settled
pub record IsCurrent (p : Program) (names : Naming) (v : View) (es : Members) (i : Instance) : Type 0 where
  pub value : Value
  pub demands : List Instance
  pub ends : Ends (ReadsHere p names v es) ((equations_of p).equation i) value demands
  pub below : order_in p i value (local_value p names es i)

-- its cell; without one its value is that of the solution, and it was seen sealed
abbrev pub IsPlaced : Program → Frame → View → Instance → Value → Option Slot → Type 0
IsPlaced p f v i x None = Knows p v i × HasValue p i x
IsPlaced p f v i x (Some s) = IsCellOf p f v i s.0

-- the start, or led to by a member of a smaller number
abbrev pub IsLedBy : Program → Naming → Members → CodedInstance → ℕ → CodedInstance → Option ℕ → Type 0
IsLedBy p names es start number i None = i ≡ start
IsLedBy p names es start number i (Some by) = (by < number) × ((e : CodedInstance × Member) × (slice_get es by ≡ Some e) × Leads p (instance_by p names e.0) (instance_by p names i))

-- a circular instance of the program with a value that the words show, or that is its own where it is seen sealed; the pass knows the nodes in both
pub record IsMember (p : Program) (names : Naming) (f : Frame) (v : View) (es : Members) (start : CodedInstance) (number : ℕ) (e : CodedInstance × Member) : Type 0 where
  pub instance : IsInstance p (instance_by p names e.0)
  pub coded : IsCoded p e.0
  pub is_circular : (equations_of p).circular (instance_by p names e.0) ≡ true
  pub elements : AreElements p e.1.value
  pub known : IsKnownInstance p v.made e.0 × IsKnownValue v.made e.1.value
  pub fits : FitsKind (kind_in p (instance_by p names e.0)) (value_by names e.1.value)
  pub shown : IsShown p v (instance_by p names e.0) (value_by names e.1.value)
  pub placed : IsPlaced p f v (instance_by p names e.0) (value_by names e.1.value) e.1.slot
  pub led : IsLedBy p names es start number e.0 e.1.by

-- the set of these members
pub record AreMembers (p : Program) (names : Naming) (f : Frame) (v : View) (start : CodedInstance) (es : Members) : Type 0 where
  pub first : (e : CodedInstance × Member) → slice_get es 0 ≡ Some e → e.0 ≡ start
  pub members : (number : ℕ) (e : CodedInstance × Member) → slice_get es number ≡ Some e → IsMember p names f v es start number e
  pub different : (m n : ℕ) (i : Instance) → IsNumberOf p names es i m → IsNumberOf p names es i n → m ≡ n

-- these are the cells of the members that have one
pub record AreSlots (es : Members) (slots : List Slot) : Type 0 where
  pub within : (s : Slot) → Has slots s → (e : CodedInstance × Member) × Has es e × (e.1.slot ≡ Some s)
  pub all : (e : CodedInstance × Member) (s : Slot) → Has es e → e.1.slot ≡ Some s → Has slots s

-- what is missing isn't circular, and a member leads to it
abbrev pub IsNeedOf : Program → Naming → Members → Option (ℕ × CodedInstance) → Type 0
IsNeedOf p names es None = Unit {0}
IsNeedOf p names es (Some (number, n)) = (e : CodedInstance × Member) × (slice_get es number ≡ Some e) × Leads p (instance_by p names e.0) (instance_by p names n)

-- what an evaluation left behind is so, by what a reader has
abbrev pub IsKept : System → Told Unit → Option Saved → Type 0
IsKept s t None = Unit {0}
IsKept s t (Some x) = AreSaved s t x

-- by a naming, a local set of a circular instance of the program, under what a pass of the cells knows
pub record IsLocal (p : Program) (names : Naming) (f : Frame) (v : View) (l : Local) : Type 0 where
  pub instance : IsInstance p (instance_by p names l.start)
  pub coded : IsCoded p l.start
  pub known : IsKnownInstance p v.made l.start
  pub is_circular : (equations_of p).circular (instance_by p names l.start) ≡ true
  pub set : AreMembers p names f v l.start l.members.entries
  pub need : IsNeedOf p names l.members.entries l.need
  pub saved : IsKept f.system.value (reads_here p v l.members.entries) l.saved

-- the same by each naming that agrees with what the pass knows
abbrev pub IsLocalByEach : Program → Frame → View → Local → Type 0
IsLocalByEach p f v l = ByEachAgreeing p v.made (λ names. IsLocal p names f v l)

-- the same under what is held
abbrev pub IsLocalAt : Held → Local → Type 0
IsLocalAt d l = IsLocalByEach (program_at d) d.frame d.view l

-- a local set of what was held before, under what is held now
abbrev pub IsStillLocal : Held → Held → Local → Type 0
IsStillLocal d e l = IsLocalByEach (program_at d) d.frame e.view l

-- a local set of i under what any pass of any cells knows that knows its nodes, by each naming for each program by which i is a circular instance of it
abbrev pub IsLocalOf : CodedInstance → Local → Type 0
IsLocalOf i l = (p : Program) (names : Naming) (f : Frame) (v : View) → IsInstance p (instance_by p names i) → IsCoded p i → IsKnownInstance p v.made i → (equations_of p).circular (instance_by p names i) ≡ true → IsLocal p names f v l
