-- Visits of the members of a local set.
use Rattle.std.specs.Prelude.{◌≡◌, ℕ, ◌<◌, true, List, Option, Some, None, IsSome, Result, Ok, Err, IfErr, OnOk, length, slice_get}
use Rattle.attr_rules.specs.declared.kinds.Kind.{Kind}
use Rattle.equation_law.specs.declared.coding.Instance.{Instance as CodedInstance}
use Rattle.equation_law.specs.declared.system.System.{System}
use Rattle.equation_law.specs.Checked.{IsInstance, IsProgram}
use Rattle.equation_law.specs.declared.coding.Value.{Value as CodedValue}
use Rattle.equation_law.specs.Codes.{AreElements, IsCoded, Naming, instance_by, value_by}
use Rattle.equation_law.specs.Equations.{equations_of, is_ordered, kind_in}
use Rattle.equation_law.specs.Names.{Instance}
use Rattle.equation_law.specs.Orders.{FitsKind}
use Rattle.equation_law.specs.Program.{Program}
use Rattle.equation_law.specs.Systems.{program_of}
use Rattle.expr_eval.specs.declared.saved.Saved.{Saved}
use Rattle.expr_eval.specs.declared.sites.Turn.{Turn}
use Rattle.memo_cells.specs.declared.view.Frame.{Frame}
use Rattle.memo_cells.specs.declared.view.View.{View}
use Rattle.memo_cells.specs.Agreeing.{ByEachAgreeing, IsKnownValue}
use Rattle.memo_cells.specs.Naming.{IsCellOf}
use Rattle.memo_cells.specs.Showing.{ShowsAtLeast}
use Rattle.memo_cells.specs.Views.{Has}
use Rattle.memo_cells.specs.Working.{ByEachAt, ClaimsKeysFor, GoesOn, Held, IsForSystem, IsKnownAt, IsOwn, program_at}
use Rattle.circular_eval.specs.declared.advancing.CircFault.{CircFault}
use Rattle.circular_eval.specs.declared.advancing.CircTurn.{CircTurn}
use Rattle.circular_eval.specs.declared.local.Local.{Local}
use Rattle.circular_eval.specs.declared.members.Member.{Member}
use Rattle.circular_eval.specs.declared.visiting.Visited.{Visited}
use Rattle.circular_eval.specs.declared.visiting.Visited.TheVariants.{Changed, Need, Same}
use Rattle.circular_eval.specs.Advancing.{AnswersFault, AnswersFaultAt, AnswersTurnAt, IsMissingByEach}
use Rattle.circular_eval.specs.Left.{left}
use Rattle.circular_eval.specs.Local.{IsCurrent, IsLedBy, IsLocalByEach, IsMemberOf, IsStillLocal, Members, StillMembers}
use Rattle.circular_eval.specs.Looking.{AreSavedHere, ComesHere}

-- a local set of the system, under what is held
pub record IsReady (s : System) (d : Held) (l : Local) : Type 0 where
  pub program : IsProgram (program_of s)
  pub same : IsForSystem d s
  pub own : IsOwn d
  pub local : IsLocalByEach (program_of s) d.frame d.view l

-- what was held went on, and the local set with it
pub record GoesOnWith (d e : Held) (old new : Local) : Type 0 where
  pub on : GoesOn d e
  pub local : IsStillLocal d e new
  pub start : new.start ≡ old.start
  pub claims : ClaimsKeysFor d e old.start
  pub some : 0 < length old.members.entries → 0 < length new.members.entries

-- by a naming, a circular instance that is no member yet, and is the start or led to by this member
pub record IsNew (p : Program) (names : Naming) (l : Local) (i : CodedInstance) (by : Option ℕ) : Type 0 where
  pub instance : IsInstance p (instance_by p names i)
  pub coded : IsCoded p i
  pub is_circular : (equations_of p).circular (instance_by p names i) ≡ true
  pub absent : ¬ IsMemberOf p names l.members.entries (instance_by p names i)
  pub led : IsLedBy p names l.members.entries l.start (length l.members.entries) i by

-- the same by each naming that agrees with what is held, where the nodes of the instance are known
abbrev pub IsNewAt : Held → Local → CodedInstance → Option ℕ → Type 0
IsNewAt d l i by = ByEachAt d (λ names. IsNew (program_at d) names l i by) × IsKnownAt d i

-- by a naming, a value that a member may begin with: it is of its type, and at most what its words show; the pass knows the nodes in it
pub record BeginsWith (p : Program) (names : Naming) (v : View) (i : Instance) (x : CodedValue) : Type 0 where
  pub elements : AreElements p x
  pub known : IsKnownValue v.made x
  pub fits : FitsKind (kind_in p i) (value_by names x)
  pub shown : ShowsAtLeast p v i (kind_in p i) (value_by names x)

-- what has its cell at this place, and is of this type, a set or a truth value, may begin with x by each naming that agrees, with what is held before and after
abbrev pub BeginsAt : Held → Held → ℕ → Kind → CodedValue → Type 0
BeginsAt d e place kind x = (i : Instance) → IsCellOf (program_at d) d.frame d.view i place → kind_in (program_at d) i ≡ kind → is_ordered kind ≡ true → ByEachAgreeing (program_at d) e.view.made (λ names. BeginsWith (program_at d) names e.view i x)

-- what the equation of the member of this number comes to, which wasn't sealed when it was met
pub record ComesAt (d : Held) (l : Local) (number : ℕ) (turn : Turn) : Type 0 where
  pub entry : CodedInstance × Member
  pub at : slice_get l.members.entries number ≡ Some entry
  pub placed : IsSome entry.1.slot
  pub comes : ComesHere d l entry.0 turn

-- the member's equation holds by each naming that agrees, unless it was sealed when it was met
abbrev pub IsConfirmed : Program → View → Members → CodedInstance × Member → Type 0
IsConfirmed p v es e = IsSome e.1.slot → ByEachAgreeing p v.made (λ names. IsCurrent p names v es (instance_by p names e.0))

abbrev pub AreConfirmed : Program → View → Members → Type 0
AreConfirmed p v es = (e : CodedInstance × Member) → Has es e → IsConfirmed p v es e

-- nothing changed but what is known of the cells, and the equation of the member of this number holds
pub record Stays (p : Program) (v : View) (old new : Local) (number : ℕ) : Type 0 where
  pub members : new.members.entries ≡ old.members.entries
  pub due : new.worklist.due ≡ old.worklist.due
  pub confirmed : (e : CodedInstance × Member) → slice_get new.members.entries number ≡ Some e → IsConfirmed p v new.members.entries e

-- the members are members still, with their values, by each naming that agrees with these makers
abbrev pub StillByEach : Program → List CodedInstance → Members → Members → Type 0
StillByEach p ms es fs = ByEachAgreeing p ms (λ names. StillMembers p names es fs)

-- what making a circular instance a member says, with what is held before and after
pub record Admits (d e : Held) (old new : Local) (result : Result Unit CircFault) : Type 0 where
  pub goes : GoesOnWith d e old new
  pub grown : OnOk result (left new.members.entries < left old.members.entries)
  pub still : OnOk result (StillByEach (program_at d) e.view.made old.members.entries new.members.entries)
  pub some : OnOk result (0 < length new.members.entries)
  pub fault : IfErr result (AnswersFaultAt d e old.start)

abbrev pub AnswersVisit : Program → Frame → View → Local → Local → ℕ → Result Visited CircFault → Type 0
AnswersVisit p f v old new number (Ok (Need n)) = IsMissingByEach p v new n
AnswersVisit p f v old new number (Ok Changed) = left new.members.entries < left old.members.entries
AnswersVisit p f v old new number (Ok Same) = Stays p v old new number
AnswersVisit p f v old new number (Err fault) = AnswersFault p old.start f v fault

-- what a visit of the member of this number says
pub record Visits (d e : Held) (old new : Local) (number : ℕ) (result : Result Visited CircFault) : Type 0 where
  pub goes : GoesOnWith d e old new
  pub answer : AnswersVisit (program_at d) d.frame e.view old new number result

-- None where a member was added, under whose value the evaluation may go on
abbrev pub AnswersStep : Program → Frame → View → Local → Local → ℕ → Result (Option Visited) CircFault → Type 0
AnswersStep p f v old new number (Ok None) = (left new.members.entries < left old.members.entries) × StillByEach p v.made old.members.entries new.members.entries
AnswersStep p f v old new number (Ok (Some (Need n))) = IsMissingByEach p v new n × (new.members.entries ≡ old.members.entries)
AnswersStep p f v old new number (Ok (Some Changed)) = left new.members.entries < left old.members.entries
AnswersStep p f v old new number (Ok (Some Same)) = Stays p v old new number
AnswersStep p f v old new number (Err fault) = AnswersFault p old.start f v fault

-- what going on with the evaluation of the member of this number says
pub record Steps (d e : Held) (old new : Local) (number : ℕ) (result : Result (Option Visited) CircFault) : Type 0 where
  pub goes : GoesOnWith d e old new
  pub answer : AnswersStep (program_at d) d.frame e.view old new number result

-- what is saved stays so, unless the evaluation has ended
abbrev pub KeepsSaved : System → Held → Local → Saved → Result (Option Visited) CircFault → Type 0
KeepsSaved s d l x (Ok None) = AreSavedHere s d l x
KeepsSaved s d l x (Ok (Some (Need n))) = AreSavedHere s d l x
KeepsSaved s d l x (Ok (Some Changed)) = Unit {0}
KeepsSaved s d l x (Ok (Some Same)) = Unit {0}
KeepsSaved s d l x (Err fault) = Unit {0}

abbrev pub AnswersPass : Program → Frame → View → Local → Local → Result Visited CircFault → Type 0
AnswersPass p f v old new (Ok (Need n)) = IsMissingByEach p v new n
AnswersPass p f v old new (Ok Changed) = left new.members.entries < left old.members.entries
AnswersPass p f v old new (Ok Same) = AreConfirmed p v new.members.entries
AnswersPass p f v old new (Err fault) = AnswersFault p old.start f v fault

-- what a pass over all members says
pub record Passes (d e : Held) (old new : Local) (result : Result Visited CircFault) : Type 0 where
  pub goes : GoesOnWith d e old new
  pub answer : AnswersPass (program_at d) d.frame e.view old new result

abbrev pub AnswersAgain : Program → Frame → View → Local → Local → Result (Option CodedInstance) CircFault → Type 0
AnswersAgain p f v old new (Ok (Some n)) = IsMissingByEach p v new n
AnswersAgain p f v old new (Ok None) = Unit {0}
AnswersAgain p f v old new (Err fault) = AnswersFault p old.start f v fault

-- what going on says with the member whose equation stopped last
pub record GoesAgain (d e : Held) (old new : Local) (result : Result (Option CodedInstance) CircFault) : Type 0 where
  pub goes : GoesOnWith d e old new
  pub answer : AnswersAgain (program_at d) d.frame e.view old new result

abbrev pub AnswersClose : Program → Frame → View → Local → Local → Result (Option CodedInstance) CircFault → Type 0
AnswersClose p f v old new (Ok (Some n)) = IsMissingByEach p v new n
AnswersClose p f v old new (Ok None) = AreConfirmed p v new.members.entries
AnswersClose p f v old new (Err fault) = AnswersFault p old.start f v fault

-- what passes say until nothing changes
pub record Closes (d e : Held) (old new : Local) (result : Result (Option CodedInstance) CircFault) : Type 0 where
  pub goes : GoesOnWith d e old new
  pub answer : AnswersClose (program_at d) d.frame e.view old new result

-- what making the start a member says
pub record Begins (d e : Held) (old new : Local) (result : Result Unit CircFault) : Type 0 where
  pub goes : GoesOnWith d e old new
  pub some : OnOk result (0 < length new.members.entries)
  pub fault : IfErr result (AnswersFaultAt d e old.start)

-- what going on with a local set says
pub record Advances (d e : Held) (old new : Local) (result : Result CircTurn CircFault) : Type 0 where
  pub goes : GoesOnWith d e old new
  pub begun : OnOk result (0 < length new.members.entries)
  pub answer : AnswersTurnAt d e new result
