-- What the clauses say of what a desk holds: d is what was held before, and e what is held now. It holds by each naming that agrees with what is held of which it is said.
use Rattle.std.specs.Prelude.{◌≡◌, ℕ, true, false, Bool, List, Option, Result}
use Rattle.attr_rules.specs.declared.kinds.Kind.{Kind}
use Rattle.rag_io.specs.declared.Memory.{Memory}
use Rattle.equation_law.specs.declared.coding.Instance.{Instance as CodedInstance}
use Rattle.equation_law.specs.declared.coding.Value.{Value as CodedValue}
use Rattle.equation_law.specs.Checked.{IsInstance, IsProgram}
use Rattle.equation_law.specs.Codes.{instance_by}
use Rattle.equation_law.specs.Equations.{equations_of, kind_in}
use Rattle.equation_law.specs.Names.{Instance}
use Rattle.equation_law.specs.Program.{Program}
use Rattle.expr_eval.specs.declared.sites.Turn.{Turn}
use Rattle.memo_cells.specs.declared.keys.Slot.{Slot}
use Rattle.memo_cells.specs.declared.view.View.{View}
use Rattle.memo_cells.specs.Agreeing.{ByEachAgreeing}
use Rattle.memo_cells.specs.Causes.{WhyUnsettled}
use Rattle.memo_cells.specs.Naming.{IsCellOf}
use Rattle.memo_cells.specs.Standing.{Knows}
use Rattle.memo_cells.specs.Working.{ByEachAt, Held, IsCodedAt, IsKnownAt, program_at}
use Rattle.collection_attrs.specs.Walks.{IsWalk, Walk}
use Rattle.circular_eval.specs.declared.local.Local.{Local}
use Rattle.circular_eval.specs.Advancing.{IsMissingByEach, IsSealed}
use Rattle.caller_pass.specs.declared.faults.AskFault.{AskFault}
use Rattle.caller_pass.specs.declared.left.Left.{Left}
use Rattle.caller_pass.specs.declared.waiting.Waiter.{Waiter}
use Rattle.caller_pass.specs.Answering.{AnswersFinish, AnswersShow, AsksNotedByEach, GoesThrough, LeavesOne, Solves, TakesTurn}
use Rattle.caller_pass.specs.declared.solving.Went.{Went}
use Rattle.caller_pass.specs.Knowing.{FindsCode, FindsValue, HasEnded, IsKnownAt as IsKnownInCell, IsReadValue, TellsSettled, TurnsTo, WhyUnknown}
use Rattle.caller_pass.specs.Leaving.{AreLeft, reads_known}
use Rattle.caller_pass.specs.Noting.{IsLooping}
use Rattle.caller_pass.specs.Waiting.{AnswersWait, HasTurn, IsFrame, LooksAgain}

-- the program of the cells is one that was checked
abbrev pub IsProgramAt : Held → Type 0
IsProgramAt d = IsProgram (program_at d)

-- by each naming that agrees with a pass the instance that is coded so is one of the program
abbrev pub IsInstanceByEach : Program → View → CodedInstance → Type 0
IsInstanceByEach p v i = ByEachAgreeing p v.made (λ names. IsInstance p (instance_by p names i))

-- its cell isn't seen settled
abbrev pub IsUnknownAt : Held → CodedInstance → Type 0
IsUnknownAt d i = ByEachAt d (λ names. ¬ Knows (program_at d) d.view (instance_by (program_at d) names i))

-- the instance that is coded so isn't declared circular
abbrev pub IsUndeclaredAt : Held → CodedInstance → Type 0
IsUndeclaredAt d i = ByEachAt d (λ names. (equations_of (program_at d)).circular (instance_by (program_at d) names i) ≡ false)

-- it is
abbrev pub IsCircularAt : Held → CodedInstance → Type 0
IsCircularAt d i = ByEachAt d (λ names. (equations_of (program_at d)).circular (instance_by (program_at d) names i) ≡ true)

-- it has a loop
abbrev pub HasLoopAt : Held → CodedInstance → Type 0
HasLoopAt d i = IsLooping (program_at d) d.view.made i

-- what has its cell at this place is an instance
abbrev pub HasCellThen : Held → Held → ℕ → Type 0
HasCellThen d e place = (i : Instance) × IsCellOf (program_at d) e.frame e.view i place

-- what had its cell at this place is seen settled
abbrev pub KnowsCell : Held → Held → ℕ → Type 0
KnowsCell d e place = (i : Instance) → IsCellOf (program_at d) d.frame d.view i place → Knows (program_at d) e.view i

-- its values are of this type
abbrev pub IsKindAt : Held → CodedInstance → Kind → Type 0
IsKindAt d i kind = ByEachAt d (λ names. kind ≡ kind_in (program_at d) (instance_by (program_at d) names i))

-- where it is coded well, its cell is the one at this slot, and is seen settled
abbrev pub IsKnownCell : Held → CodedInstance → Slot → Type 0
IsKnownCell d i slot = IsKnownInCell (program_at d) d.frame d.view i slot

-- where it is coded well and the pass knew its nodes, where its cell is seen settled, if it is
abbrev pub FindsCodeAt : Held → Held → CodedInstance → Option (Slot × ℕ) → Type 0
FindsCodeAt d e i found = IsCodedAt d i → IsKnownAt d i → ByEachAgreeing (program_at d) e.view.made (λ names. FindsCode (program_at d) e.frame e.view (instance_by (program_at d) names i) found)

-- so, why it isn't known
abbrev pub WhyUnknownAt : Held → Held → CodedInstance → Type 0
WhyUnknownAt d e i = IsCodedAt d i → IsKnownAt d i → WhyUnknown (program_at d) d.frame d.view e.view i

-- why what has its cell at this place isn't settled
abbrev pub WhyUnsettledAt : Held → Held → ℕ → Type 0
WhyUnsettledAt d e place = WhyUnsettled d.frame d.view e.view place

-- so, its value, if its cell is seen settled
abbrev pub FindsValueAt : Held → Held → CodedInstance → Result (Option CodedValue) Memory → Type 0
FindsValueAt d e i found = IsCodedAt d i → IsKnownAt d i → ByEachAgreeing (program_at d) e.view.made (λ names. FindsValue (program_at d) names e.view (instance_by (program_at d) names i) found)

-- x is its value, where it is coded well
abbrev pub IsReadValueAt : Held → Held → CodedInstance → CodedValue → Type 0
IsReadValueAt d e i x = IsReadValue (program_at d) e.view i x

-- whether what has its cell at this place is settled, by a load of its value word
abbrev pub TellsSettledAt : Held → Held → ℕ → Bool → Type 0
TellsSettledAt d e place told = TellsSettled (program_at d) d.frame d.view e.view place told

-- a walk over what is offered to a collection, by what the pass knows
abbrev pub IsWalkAt : Held → Walk → Type 0
IsWalkAt d w = IsWalk (program_at d) (reads_known (program_at d) d.view) w

-- what an evaluation of its equation left behind is so, by what the pass knew
abbrev pub AreLeftAt : Held → CodedInstance → Left → Type 0
AreLeftAt d i l = AreLeft d.frame.system.value (reads_known (program_at d) d.view) i l

-- by what the pass knows
abbrev pub AreLeftNow : Held → Held → CodedInstance → Left → Type 0
AreLeftNow d e i l = AreLeft d.frame.system.value (reads_known (program_at d) e.view) i l

-- what its equation comes to under what the pass knows
abbrev pub TurnsToAt : Held → Held → CodedInstance → Result Turn Memory → Type 0
TurnsToAt d e i result = ByEachAgreeing (program_at d) e.view.made (λ names. TurnsTo (program_at d) names e.view (instance_by (program_at d) names i) result)

-- its equation ended with this value
abbrev pub HasEndedAt : Held → CodedInstance → CodedValue → Type 0
HasEndedAt d i x = ByEachAt d (λ names. HasEnded (program_at d) names d.view (instance_by (program_at d) names i) x)

-- what raising its words answers
abbrev pub AnswersShowAt : Held → Held → CodedInstance → CodedValue → Result Unit AskFault → Type 0
AnswersShowAt d e i x result = ByEachAgreeing (program_at d) e.view.made (λ names. AnswersShow (program_at d) names d.frame e.view (instance_by (program_at d) names i) x result)

-- what settling its cell answers
abbrev pub AnswersFinishAt : Held → Held → CodedInstance → Result Unit AskFault → Type 0
AnswersFinishAt d e i result = ByEachAgreeing (program_at d) e.view.made (λ names. AnswersFinish (program_at d) d.frame e.view (instance_by (program_at d) names i) result)

-- what settling it on demand says
abbrev pub SolvesAt : Held → Held → CodedInstance → ℕ → ℕ → Result Unit AskFault → Type 0
SolvesAt d e i before after result = ByEachAgreeing (program_at d) e.view.made (λ names. Solves (program_at d) names d.frame d.view e.view (instance_by (program_at d) names i) before after result)

-- a circular instance that leads to it and was settled leaves one evaluation to be paid
abbrev pub LeavesOneAt : Held → Held → CodedInstance → ℕ → ℕ → Type 0
LeavesOneAt d e i before after = ByEachAgreeing (program_at d) e.view.made (λ names. LeavesOne (program_at d) d.frame d.view e.view (instance_by (program_at d) names i) before after)

-- what asking for it says
abbrev pub AsksNotedAt : Held → Held → CodedInstance → ℕ → ℕ → Result CodedValue AskFault → Type 0
AsksNotedAt d e i before after result = AsksNotedByEach (program_at d) d.frame d.view e.view i before after result

-- an instance that waits is to be evaluated next, or its local set is to go on
abbrev pub IsFrameAt : Held → CodedInstance × Waiter → Type 0
IsFrameAt d e = ByEachAt d (λ names. IsFrame (program_at d) names d.frame d.view e)

-- it may be evaluated, or its local set may go on
abbrev pub HasTurnAt : Held → CodedInstance × Waiter → Type 0
HasTurnAt d e = ByEachAt d (λ names. HasTurn (program_at d) names d.frame d.view e)

-- the answer where the last of those that wait is to wait for another one
abbrev pub AnswersWaitAt : Held → Held → List (CodedInstance × Waiter) → CodedInstance → List (CodedInstance × Waiter) → Result Waiter AskFault → Type 0
AnswersWaitAt d e es next new result = ByEachAgreeing (program_at d) e.view.made (λ names. AnswersWait (program_at d) names d.frame e.view es next new result)

-- its local set stays exactly where the start of that isn't seen sealed
abbrev pub LooksAgainAt : Held → Held → Waiter → Waiter → Type 0
LooksAgainAt d e old new = ByEachAgreeing (program_at d) e.view.made (λ names. LooksAgain (program_at d) names d.view e.view old new)

-- what a turn of it says
abbrev pub GoesThroughAt : Held → Held → CodedInstance → Waiter → Waiter → ℕ → ℕ → Result Went AskFault → Type 0
GoesThroughAt d e i old new before after result = GoesThrough (program_at d) d e i old new before after result

-- what a turn of it says, which begins with a load of its value word
abbrev pub TakesTurnAt : Held → Held → CodedInstance → Waiter → Waiter → ℕ → ℕ → Result Went AskFault → Type 0
TakesTurnAt d e i old new before after result = TakesTurn (program_at d) d e i old new before after result

-- its value is missing from this local set
abbrev pub IsMissingAt : Held → Local → CodedInstance → Type 0
IsMissingAt d l i = IsMissingByEach (program_at d) d.view l i

-- the members of a local set are seen sealed
abbrev pub IsSealedBy : Held → Local → Type 0
IsSealedBy d l = ByEachAt d (λ names. IsSealed (program_at d) names d.view l)
