-- Parts of a local set that are sealed while it waits.
use Rattle.std.specs.Prelude.{◌≡◌, ◌⊎◌, ℕ, zero, suc, ◌<◌, Bool, true, false, List, [], ◌∷◌, Contains, Option, Some, None, IsSome, Result, IfErr, length, slice_get}
use Rattle.std.specs.Option.{option_and_then, option_map}
use Rattle.equation_law.specs.declared.coding.Instance.{Instance as CodedInstance}
use Rattle.equation_law.specs.declared.coding.Value.{Value as CodedValue}
use Rattle.equation_law.specs.Codes.{AreElements, Naming, instance_by, value_by}
use Rattle.equation_law.specs.Equations.{HasValue, equations_of, kind_in}
use Rattle.equation_law.specs.Loops.{Chain}
use Rattle.equation_law.specs.Names.{Instance}
use Rattle.equation_law.specs.Orders.{FitsKind}
use Rattle.equation_law.specs.Program.{Program}
use Rattle.memo_cells.specs.declared.view.Frame.{Frame}
use Rattle.memo_cells.specs.declared.view.View.{View}
use Rattle.memo_cells.specs.Agreeing.{ByEachAgreeing, IsKnownValue}
use Rattle.memo_cells.specs.Standing.{Knows}
use Rattle.memo_cells.specs.Working.{GoesOn, Held, program_at}
use Rattle.circular_eval.specs.declared.advancing.CircFault.{CircFault}
use Rattle.circular_eval.specs.declared.local.Local.{Local}
use Rattle.circular_eval.specs.declared.members.Member.{Member}
use Rattle.circular_eval.specs.Advancing.{AnswersFaultAt, IsSealed}
use Rattle.circular_eval.specs.Local.{IsLocal, Members}
use Rattle.circular_eval.specs.Visiting.{GoesOnWith}
use Rattle.worklists.specs.Waiting.{IsClosed}

-- the members, where the one of this number is sealed: it has no cell any more
abbrev pub without_slot : Members → ℕ → Members
without_slot [] n = []
without_slot (e ∷ es) zero = (e.0, record { slot = None; value = e.1.value; by = e.1.by }) ∷ es
without_slot (e ∷ es) (suc n) = e ∷ without_slot es n

-- the member of this number, unless it is sealed
abbrev pub unsealed_at : Members → ℕ → Option CodedInstance
unsealed_at es n = option_and_then (λ e. option_map (λ s. e.0) e.1.slot) (slice_get es n)

-- a member that isn't sealed and leads to nothing that is missing, as far as was noted
pub record IsClosedMember (l : Local) (k : ℕ) : Type 0 where
  pub stopped : ℕ × CodedInstance
  pub need : l.need ≡ Some stopped
  pub closed : IsClosed l.worklist stopped.0 k
  pub unsealed : IsSome (unsealed_at l.members.entries k)

-- these are all such members
pub record AreClosedMembers (l : Local) (ks : List ℕ) : Type 0 where
  pub closed : (k : ℕ) → Contains ks k → IsClosedMember l k
  pub all : (k : ℕ) → IsClosedMember l k → Contains ks k

-- the member of this number is sealed, if there is one
abbrev pub IsSealedAt : Members → ℕ → Type 0
IsSealedAt es n = unsealed_at es n ≡ None

-- the instance is sealed wherever it is a member
abbrev pub IsSealedIn : Members → CodedInstance → Type 0
IsSealedIn es i = (n : ℕ) (e : CodedInstance × Member) → slice_get es n ≡ Some e → e.0 ≡ i → e.1.slot ≡ None

-- the same members under the same numbers, and those that were sealed are
pub record SameMembers (es fs : Members) : Type 0 where
  pub same : (n : ℕ) (e : CodedInstance × Member) → slice_get fs n ≡ Some e → (d : CodedInstance × Member) × (slice_get es n ≡ Some d) × (e.0 ≡ d.0) × (d.1.slot ≡ None → e.1.slot ≡ None)

-- by a naming, the value with which i is seen sealed; the pass knows the nodes in it
pub record IsFinal (p : Program) (names : Naming) (v : View) (i : Instance) (x : CodedValue) : Type 0 where
  pub elements : AreElements p x
  pub value_known : IsKnownValue v.made x
  pub fits : FitsKind (kind_in p i) (value_by names x)
  pub known : Knows p v i
  pub has : HasValue p i (value_by names x)

-- it is that of the member of this number
abbrev pub IsFinalAt : Program → Naming → View → Members → ℕ → CodedValue → Type 0
IsFinalAt p names v es number x = (e : CodedInstance × Member) → slice_get es number ≡ Some e → IsFinal p names v (instance_by p names e.0) x

-- a local set whose members are seen sealed
pub record IsSealedSet (p : Program) (names : Naming) (f : Frame) (v : View) (l : Local) : Type 0 where
  pub local : IsLocal p names f v l
  pub sealed : IsSealed p names v l

-- the member of this number has the value with which its instance was sealed: the set stays one
pub record Settles (old new : Local) (number : ℕ) (x : CodedValue) : Type 0 where
  pub start : new.start ≡ old.start
  pub members : SameMembers old.members.entries new.members.entries
  pub some : 0 < length old.members.entries → 0 < length new.members.entries
  pub kept : (p : Program) (names : Naming) (f : Frame) (v : View) → IsLocal p names f v old → IsFinalAt p names v old.members.entries number x → IsLocal p names f v new

-- what was sealed with a part is final in the set: it stays one
pub record Takes (part old new : Local) : Type 0 where
  pub start : new.start ≡ old.start
  pub members : SameMembers old.members.entries new.members.entries
  pub some : 0 < length old.members.entries → 0 < length new.members.entries
  pub kept : (p : Program) (names : Naming) (f : Frame) (v : View) → IsLocal p names f v old → IsSealedSet p names f v part → IsLocal p names f v new

-- the member of this number of a sealed part is sealed in the set, if it is a member there
abbrev pub SealsMember : Local → Local → Local → ℕ → Type 0
SealsMember part old new k = (p : Program) (names : Naming) (f : Frame) (v : View) → IsLocal p names f v old → IsSealedSet p names f v part → (e : CodedInstance × Member) → slice_get part.members.entries k ≡ Some e → IsSealedIn new.members.entries e.0

-- what sealing parts of a local set says, with what is held before and after
pub record SealsPart {X : Type 0} (d e : Held) (old new : Local) (result : Result X CircFault) : Type 0 where
  pub goes : GoesOnWith d e old new
  pub members : SameMembers old.members.entries new.members.entries
  pub fault : IfErr result (AnswersFaultAt d e old.start)

-- by a naming, i leads to an instance that isn't circular, and whose value is missing
pub record IsMissingFrom (p : Program) (names : Naming) (v : View) (i need : CodedInstance) : Type 0 where
  pub reached : Chain p (instance_by p names i) (instance_by p names need)
  pub undeclared : (equations_of p).circular (instance_by p names need) ≡ false
  pub unknown : ¬ Knows p v (instance_by p names need)

-- i led to an instance that isn't circular, and whose value was missing then
pub record HadToWait (d e : Held) (i : CodedInstance) : Type 0 where
  pub then : Held
  pub before : GoesOn d then
  pub after : GoesOn then e
  pub need : CodedInstance
  pub missing : ByEachAgreeing (program_at d) then.view.made (λ names. IsMissingFrom (program_at d) names then.view i need)

-- whether the member of this number is sealed now; where it isn't it had to wait
abbrev pub AnswersPart : Held → Held → Members → Members → ℕ → Bool → Type 0
AnswersPart d e es fs n true = IsSealedAt fs n
AnswersPart d e es fs n false = (i : CodedInstance) × (unsealed_at es n ≡ Some i) × HadToWait d e i

-- the members of these numbers are sealed now, unless one of them had to wait
abbrev pub SealsClosed : Held → Held → Members → Members → List ℕ → Type 0
SealsClosed d e es fs ks = ((k : ℕ) → Contains ks k → IsSealedAt fs k) ⊎ ((k : ℕ) × Contains ks k × AnswersPart d e es fs k false)
