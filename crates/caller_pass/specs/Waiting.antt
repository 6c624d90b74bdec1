-- The instances that wait, with their slots and the local sets through which they wait.
use Rattle.std.specs.Prelude.{◌≡◌, ◌⊎◌, Bool, true, false, ℕ, List, [], ◌∷◌, ◌++◌, Option, Some, None, Result, Ok, Err, map}
use Rattle.std.specs.Global.{Box}
use Rattle.std.specs.List.{list_any}
use Rattle.std.specs.Map.{keys_of}
use Rattle.equation_law.specs.contracts.coding.InstancePartialEq.TheImpl as equality
use Rattle.equation_law.specs.declared.coding.Instance.{Instance as CodedInstance}
use Rattle.equation_law.specs.Checked.{IsInstance}
use Rattle.equation_law.specs.Codes.{IsCoded, Naming, instance_by}
use Rattle.equation_law.specs.Equations.{equations_of}
use Rattle.equation_law.specs.Loops.{Chain, HasLoop, Leads}
use Rattle.equation_law.specs.Names.{Instance}
use Rattle.equation_law.specs.Program.{Program}
use Rattle.memo_cells.specs.declared.view.Frame.{Frame}
use Rattle.memo_cells.specs.declared.view.View.{View}
use Rattle.memo_cells.specs.Agreeing.{IsKnownInstance}
use Rattle.memo_cells.specs.Naming.{IsCellOf, LacksCell}
use Rattle.memo_cells.specs.Standing.{Knows}
use Rattle.memo_cells.specs.Views.{Has}
use Rattle.circular_eval.specs.declared.local.Local.{Local}
use Rattle.circular_eval.specs.Advancing.{AreLed, IsPath}
use Rattle.circular_eval.specs.Local.{IsLocal}
use Rattle.caller_pass.specs.declared.faults.AskFault.{AskFault}
use Rattle.caller_pass.specs.declared.faults.AskFault.TheVariants.{CellsFull, Circular, Memory}
use Rattle.caller_pass.specs.declared.waiting.Waiter.{Waiter}
use Rattle.caller_pass.specs.Leaving.{IsLeft, reads_known}

abbrev pub unboxed : Option (Box Local) → Option Local
unboxed None = None
unboxed (Some b) = Some b.value

-- the local set through which it waits
abbrev pub way_of : Waiter → Option Local
way_of x = unboxed x.way

-- i is one of those that wait
abbrev pub waits : List (CodedInstance × Waiter) → CodedInstance → Bool
waits es i = list_any (equality.ghosts.eq i) (keys_of es)

-- a local set that begins with i: it is one of each program of which i is a circular instance, whatever its cells are, where the pass knows the nodes of i
abbrev pub IsLocalFrom : CodedInstance → Local → Type 0
IsLocalFrom i l = (p : Program) (names : Naming) (f : Frame) (v : View) → IsInstance p (instance_by p names i) → IsCoded p i → IsKnownInstance p v.made i → (equations_of p).circular (instance_by p names i) ≡ true → IsLocal p names f v l

-- i demands the start of this local set, which isn't seen sealed
pub record IsWay (p : Program) (names : Naming) (f : Frame) (v : View) (i : Instance) (l : Local) : Type 0 where
  pub local : IsLocal p names f v l
  pub led : Leads p i (instance_by p names l.start)
  pub unknown : ¬ Knows p v (instance_by p names l.start)

abbrev pub IsWayOf : Program → Naming → Frame → View → Instance → Option Local → Type 0
IsWayOf p names f v i None = Unit {0}
IsWayOf p names f v i (Some l) = IsWay p names f v i l

-- an instance of the program that isn't circular, well coded, whose cell is seen claimed at its slot; the pass knows its nodes, and what its evaluation left
-- behind is so
pub record IsPlaced (p : Program) (names : Naming) (f : Frame) (v : View) (e : CodedInstance × Waiter) : Type 0 where
  pub instance : IsInstance p (instance_by p names e.0)
  pub coded : IsCoded p e.0
  pub known : IsKnownInstance p v.made e.0
  pub undeclared : (equations_of p).circular (instance_by p names e.0) ≡ false
  pub slot : IsCellOf p f v (instance_by p names e.0) e.1.slot.0
  pub left : IsLeft f.system.value (reads_known p v) e.0 e.1.left

-- it is to be evaluated next, or the local set that it waits for is to go on
pub record IsFrame (p : Program) (names : Naming) (f : Frame) (v : View) (e : CodedInstance × Waiter) : Type 0 where
  pub placed : IsPlaced p names f v e
  pub way : IsWayOf p names f v (instance_by p names e.0) (way_of e.1)

-- i demands the start of the local set for which it waits, whatever is seen of that
abbrev pub HasWay : Program → Naming → Frame → View → Instance → Option Local → Type 0
HasWay p names f v i None = Unit {0}
HasWay p names f v i (Some l) = IsLocal p names f v l × Leads p i (instance_by p names l.start)

-- it may be evaluated, or the local set that it waits for may go on
pub record HasTurn (p : Program) (names : Naming) (f : Frame) (v : View) (e : CodedInstance × Waiter) : Type 0 where
  pub placed : IsPlaced p names f v e
  pub way : HasWay p names f v (instance_by p names e.0) (way_of e.1)

-- the local set needed n last
pub record Needed (p : Program) (names : Naming) (l : Local) (n : Instance) : Type 0 where
  pub number : ℕ
  pub coded : CodedInstance
  pub noted : l.need ≡ Some (number, coded)
  pub is : instance_by p names coded ≡ n

-- i waits for n: it demands n, or the local set that it waits for needs n
abbrev pub WaitsBy : Program → Naming → Frame → View → Instance → Option Local → Instance → Type 0
WaitsBy p names f v i None n = Leads p i n
WaitsBy p names f v i (Some l) n = Leads p i (instance_by p names l.start) × IsLocal p names f v l × Needed p names l n × Chain p (instance_by p names l.start) n

-- each waits for the next one, and the last one for n
abbrev pub AreWaiting : Program → Naming → Frame → View → List (CodedInstance × Waiter) → Instance → Type 0
AreWaiting p names f v [] n = Unit {0}
AreWaiting p names f v (e ∷ []) n = WaitsBy p names f v (instance_by p names e.0) (way_of e.1) n
AreWaiting p names f v (e ∷ d ∷ es) n = WaitsBy p names f v (instance_by p names e.0) (way_of e.1) (instance_by p names d.0) × AreWaiting p names f v (d ∷ es) n

-- those that wait, of which the first is i, and the one that they wait for
pub record IsStack (p : Program) (names : Naming) (f : Frame) (v : View) (i : Instance) (es : List (CodedInstance × Waiter)) (top : CodedInstance × Waiter) : Type 0 where
  pub first : CodedInstance × Waiter
  pub rest : List (CodedInstance × Waiter)
  pub starts : es ++ top ∷ [] ≡ first ∷ rest
  pub is : instance_by p names first.0 ≡ i
  pub placed : (e : CodedInstance × Waiter) → Has es e → IsPlaced p names f v e
  pub waiting : AreWaiting p names f v es (instance_by p names top.0)
  pub frame : IsFrame p names f v top
  pub other : waits es top.0 ≡ false

-- by these instances the first one that waits leads to n, which stands behind them; all that wait stand among them
pub record IsLineTo (p : Program) (names : Naming) (es : List (CodedInstance × Waiter)) (n : Instance) (line : List Instance) : Type 0 where
  pub front : List Instance
  pub ends : line ≡ front ++ n ∷ []
  pub led : AreLed p line
  pub starts : (e : CodedInstance × Waiter) (ds : List (CodedInstance × Waiter)) → es ≡ e ∷ ds → (rest : List Instance) × (line ≡ instance_by p names e.0 ∷ rest)
  pub among : (e : CodedInstance × Waiter) → Has es e → Has front (instance_by p names e.0)

-- the chain is such a line to `on`, if that is what they wait for
abbrev pub IsChainTo : Program → List (CodedInstance × Waiter) → CodedInstance → List CodedInstance → Type 0
IsChainTo p es on chain = (names : Naming) (f : Frame) (v : View) → AreWaiting p names f v es (instance_by p names on) → IsLineTo p names es (instance_by p names on) (map (instance_by p names) chain)

-- the path of a local set to what it needed last was added, without that
pub record HasPart (old new : List CodedInstance) (l : Local) : Type 0 where
  pub part : List CodedInstance
  pub added : new ≡ old ++ part
  pub path : (p : Program) (names : Naming) (f : Frame) (v : View) (n : Instance) → IsLocal p names f v l → Needed p names l n → IsPath p (instance_by p names l.start) n (map (instance_by p names) part ++ n ∷ [])

-- a chain behind such a path
pub record IsBehind (l : Local) (chain whole : List CodedInstance) : Type 0 where
  pub part : List CodedInstance
  pub joined : whole ≡ part ++ chain
  pub path : (p : Program) (names : Naming) (f : Frame) (v : View) (n : Instance) → IsLocal p names f v l → Needed p names l n → IsPath p (instance_by p names l.start) n (map (instance_by p names) part ++ n ∷ [])

-- the answer where the last of `es` is to wait for `next`: how that one stands, which is new among them, or the line to it, which holds it already
-- where it isn't known to have a loop
abbrev pub AnswersWait : Program → Naming → Frame → View → List (CodedInstance × Waiter) → CodedInstance → List (CodedInstance × Waiter) → Result Waiter AskFault → Type 0
AnswersWait p names f v es next new (Ok x) = (new ≡ es) × IsCellOf p f v (instance_by p names next) x.slot.0 × (way_of x ≡ None) × (waits es next ≡ false) × (x.left ≡ None)
AnswersWait p names f v es next new (Err (Circular on chain)) = (on ≡ next) × ((waits es next ≡ true) ⊎ HasLoop p (instance_by p names next)) × IsChainTo p es next chain
AnswersWait p names f v es next new (Err CellsFull) = LacksCell p f v (instance_by p names next)
AnswersWait p names f v es next new (Err Memory) = Unit {0}

-- a local set stays exactly where its start isn't seen sealed: `u` is what was known before, and `v` what is known
abbrev pub WayStays : Program → Naming → View → View → Option Local → Option Local → Type 0
WayStays p names u v None way = way ≡ None
WayStays p names u v (Some l) None = IsCoded p l.start → IsKnownInstance p u.made l.start → Knows p v (instance_by p names l.start)
WayStays p names u v (Some l) (Some m) = (m ≡ l) × (IsCoded p l.start → IsKnownInstance p u.made l.start → ¬ Knows p v (instance_by p names l.start))

pub record LooksAgain (p : Program) (names : Naming) (u v : View) (old new : Waiter) : Type 0 where
  pub slot : new.slot ≡ old.slot
  pub left : new.left ≡ old.left
  pub way : WayStays p names u v (way_of old) (way_of new)
