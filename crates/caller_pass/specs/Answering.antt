-- The answers to an instance that is asked for.
use Rattle.std.specs.Prelude.{◌≡◌, ℕ, zero, suc, ◌+◌, ◌*◌, ◌/◌, ◌^◌, ◌<◌, ◌≤◌, ◌==◌, ◌&&◌, ◌||◌, if◌then◌else◌, Bool, true, false, List, [], ◌∷◌, ◌++◌, ◌⊎◌, Option, Some, None, Result, Ok, Err, IsOk, map}
use Rattle.std.specs.List.{list_any}
use Rattle.attr_rules.specs.Rules.{is_single}
use Rattle.equation_law.specs.declared.coding.Instance.{Instance as CodedInstance}
use Rattle.equation_law.specs.declared.coding.Value.{Value as CodedValue}
use Rattle.equation_law.specs.Checked.{IsInstance}
use Rattle.equation_law.specs.Codes.{AreElements, IsCoded, Naming, instance_by, value_by}
use Rattle.equation_law.specs.Equations.{HasValue, equations_of, kind_in}
use Rattle.equation_law.specs.Loops.{Chain, HasLoop}
use Rattle.equation_law.specs.Names.{Instance}
use Rattle.equation_law.specs.Program.{Program}
use Rattle.memo_cells.specs.declared.view.Frame.{Frame}
use Rattle.memo_cells.specs.declared.view.View.{View}
use Rattle.memo_cells.specs.Agreeing.{ByEachAgreeing, IsKnownInstance, IsKnownValue}
use Rattle.memo_cells.specs.Causes.{WhyUnsettled}
use Rattle.memo_cells.specs.Claiming.{ClaimsKeys, FillsCells}
use Rattle.memo_cells.specs.Naming.{IsCellOf}
use Rattle.memo_cells.specs.Showing.{ShowsAtLeast}
use Rattle.memo_cells.specs.Standing.{Knows}
use Rattle.memo_cells.specs.Working.{ClaimsKeysFor, GoesOn, Held, KnowsAt, ReadsOn, program_at}
use Rattle.circular_eval.specs.declared.advancing.CircFault.{CircFault}
use Rattle.circular_eval.specs.declared.advancing.CircFault.TheVariants as set_fault
use Rattle.circular_eval.specs.declared.local.Local.{Local}
use Rattle.circular_eval.specs.Advancing.{AreLed}
use Rattle.caller_pass.specs.declared.faults.AskFault.{AskFault}
use Rattle.caller_pass.specs.declared.faults.AskFault.TheVariants.{CellsFull, Circular, Memory}
use Rattle.caller_pass.specs.declared.solving.Went.{Went}
use Rattle.caller_pass.specs.declared.solving.Went.TheVariants.{Further, Need, Settled}
use Rattle.caller_pass.specs.declared.waiting.Waiter.{Waiter}
use Rattle.caller_pass.specs.Leaving.{IsLeft, reads_known}
use Rattle.caller_pass.specs.Waiting.{IsWay, WaitsBy, way_of}

-- the chain begins with i, each later member is led to by the one before, and `on`, which isn't circular, stands there twice
pub record IsLoop (p : Program) (i on : Instance) (chain : List Instance) : Type 0 where
  pub rest : List Instance
  pub starts : chain ≡ i ∷ rest
  pub led : AreLed p chain
  pub front : List Instance
  pub back : List Instance
  pub twice : chain ≡ front ++ on ∷ (back ++ on ∷ [])
  pub undeclared : (equations_of p).circular on ≡ false

-- the chain begins with i, each later member is led to by the one before, and it ends with `on`, which isn't circular and has a loop
pub record EndsAtLoop (p : Program) (i on : Instance) (chain : List Instance) : Type 0 where
  pub rest : List Instance
  pub starts : chain ≡ i ∷ rest
  pub led : AreLed p chain
  pub front : List Instance
  pub ends : chain ≡ front ++ on ∷ []
  pub undeclared : (equations_of p).circular on ≡ false
  pub loop : HasLoop p on

-- `Circular` comes with a loop, and `CellsFull` where other keys have all the cells than some key of i
abbrev pub AnswersFault : Program → Naming → Frame → View → Instance → AskFault → Type 0
AnswersFault p names f v i (Circular on chain) = IsLoop p i (instance_by p names on) (map (instance_by p names) chain)
AnswersFault p names f v i CellsFull = FillsCells p i f v
AnswersFault p names f v i Memory = Unit {0}

-- the fault is the answer to whoever asks with this chain, if that ends at `on`, which has a loop
abbrev pub AnswersChain : CodedInstance → List CodedInstance → AskFault → Type 0
AnswersChain on chain fault = (p : Program) (names : Naming) (f : Frame) (v : View) (i : Instance) → EndsAtLoop p i (instance_by p names on) (map (instance_by p names) chain) → AnswersFault p names f v i fault

-- The same where the chain of `Circular` may end at an instance that is known to have a loop
abbrev pub StopsAt : Program → Naming → Frame → View → Instance → AskFault → Type 0
StopsAt p names f v i (Circular on chain) = EndsAtLoop p i (instance_by p names on) (map (instance_by p names) chain)
StopsAt p names f v i CellsFull = FillsCells p i f v
StopsAt p names f v i Memory = Unit {0}

-- Ok is the value in the solution, whose elements are coded well if it is a set, and the cell is then seen settled; the pass knows the nodes in the value
abbrev pub AnswersAsk : Program → Naming → Frame → View → Instance → Result CodedValue AskFault → Type 0
AnswersAsk p names f v i (Ok x) = HasValue p i (value_by names x) × Knows p v i × AreElements p x × IsKnownValue v.made x
AnswersAsk p names f v i (Err fault) = AnswersFault p names f v i fault

-- the same with such a fault
abbrev pub AnswersNoted : Program → Naming → Frame → View → Instance → Result CodedValue AskFault → Type 0
AnswersNoted p names f v i (Ok x) = HasValue p i (value_by names x) × Knows p v i × AreElements p x × IsKnownValue v.made x
AnswersNoted p names f v i (Err fault) = StopsAt p names f v i fault

-- the cell is then seen settled
abbrev pub AnswersSolve : Program → Naming → Frame → View → Instance → Result Unit AskFault → Type 0
AnswersSolve p names f v i (Ok done) = Knows p v i
AnswersSolve p names f v i (Err fault) = StopsAt p names f v i fault

-- the same without a loop
abbrev pub AnswersFinish : Program → Frame → View → Instance → Result Unit AskFault → Type 0
AnswersFinish p f v i (Ok done) = Knows p v i
AnswersFinish p f v i (Err (Circular on chain)) = ⊥
AnswersFinish p f v i (Err CellsFull) = FillsCells p i f v
AnswersFinish p f v i (Err Memory) = Unit {0}

-- the words of i show its value then, if that is a set
abbrev pub AnswersShow : Program → Naming → Frame → View → Instance → CodedValue → Result Unit AskFault → Type 0
AnswersShow p names f v i x (Ok done) = is_single (kind_in p i) ≡ false → ShowsAtLeast p v i (kind_in p i) (value_by names x)
AnswersShow p names f v i x (Err fault) = AnswersFinish p f v i (Err fault)

-- the local set through which i waits changed: there is one now, or its start is seen sealed
abbrev pub WayChanges : Program → Naming → Frame → View → Instance → Option Local → Option Local → Type 0
WayChanges p names f v i None None = ⊥
WayChanges p names f v i None (Some l) = IsWay p names f v i l
WayChanges p names f v i (Some l) None = Knows p v (instance_by p names l.start)
WayChanges p names f v i (Some l) (Some m) = ⊥

-- the local set through which it waits still begins with the same instance
abbrev pub SameWay : Option Local → Option Local → Type 0
SameWay None None = Unit {0}
SameWay None (Some m) = ⊥
SameWay (Some l) None = ⊥
SameWay (Some l) (Some m) = m.start ≡ l.start

-- the instance for which i waits: one that isn't circular, and isn't seen settled; the pass knows its nodes
pub record IsNext (p : Program) (names : Naming) (f : Frame) (v : View) (i : Instance) (way : Option Local) (n : CodedInstance) : Type 0 where
  pub instance : IsInstance p (instance_by p names n)
  pub coded : IsCoded p n
  pub known : IsKnownInstance p v.made n
  pub undeclared : (equations_of p).circular (instance_by p names n) ≡ false
  pub unknown : ¬ Knows p v (instance_by p names n)
  pub waits : WaitsBy p names f v i way (instance_by p names n)

abbrev pub AnswersStep : Program → Naming → Frame → View → Instance → Option Local → Option Local → Result Went AskFault → Type 0
AnswersStep p names f v i old new (Ok Settled) = Knows p v i × (old ≡ None)
AnswersStep p names f v i old new (Ok Further) = WayChanges p names f v i old new
AnswersStep p names f v i old new (Ok (Need n)) = IsNext p names f v i new n × SameWay old new
AnswersStep p names f v i old new (Err (Circular on chain)) = ⊥
AnswersStep p names f v i old new (Err CellsFull) = FillsCells p i f v
AnswersStep p names f v i old new (Err Memory) = Unit {0}

-- an evaluation in a turn of i, with what was known and is known, by each naming that agrees with that, and the counts of evaluations before and after
pub record GoesThrough (p : Program) (d e : Held) (i : CodedInstance) (old new : Waiter) (before after : ℕ) (result : Result Went AskFault) : Type 0 where
  pub on : GoesOn d e
  pub claims : ClaimsKeysFor d e i
  pub slot : new.slot ≡ old.slot
  pub left : IsLeft d.frame.system.value (reads_known p e.view) i new.left
  pub answer : ByEachAgreeing p e.view.made (λ names. AnswersStep p names d.frame e.view (instance_by p names i) (way_of old) (way_of new) result)
  pub evals : after ≡ before + 1

-- i wasn't known, and the value word of its cell, as loaded in this call, wasn't settled: `v` is what was known before, and `w` what is known
pub record WasUnsettled (p : Program) (f : Frame) (v w : View) (i : Instance) : Type 0 where
  pub unknown : ¬ Knows p v i
  pub slot : ℕ
  pub cell : IsCellOf p f w i slot
  pub why : WhyUnsettled f v w slot

-- the value word of i was settled, as its turn loaded it: the turn ends there
pub record FindsSettled (d e : Held) (i : CodedInstance) (before after : ℕ) (result : Result Went AskFault) : Type 0 where
  pub read : ReadsOn d e
  pub known : KnowsAt e i
  pub went : result ≡ Ok Settled
  pub evals : after ≡ before

-- it wasn't, as its turn loaded it, and there is one evaluation more
pub record Evaluates (p : Program) (d e : Held) (i : CodedInstance) (old new : Waiter) (before after : ℕ) (result : Result Went AskFault) : Type 0 where
  pub was : ByEachAgreeing p e.view.made (λ names. WasUnsettled p d.frame d.view e.view (instance_by p names i))
  pub through : GoesThrough p d e i old new before after result

-- A turn of i, which begins with a load of its value word. The count of evaluations rises only where that wasn't settled.
abbrev pub TakesTurn : Program → Held → Held → CodedInstance → Waiter → Waiter → ℕ → ℕ → Result Went AskFault → Type 0
TakesTurn p d e i old new before after result = FindsSettled d e i before after result ⊎ Evaluates p d e i old new before after result

abbrev pub IsCircular : {X : Type 0} → Result X AskFault → Type 0
IsCircular (Err (Circular on chain)) = Unit {0}
IsCircular _ = ⊥

-- the fault of a local set is that of who asks
abbrev pub IsSameFault : CircFault → AskFault → Type 0
IsSameFault set_fault.CellsFull fault = fault ≡ CellsFull
IsSameFault set_fault.Memory fault = fault ≡ Memory

-- k is the key word of an attribute with at most n arguments, on a way that is seen claimed
abbrev pub is_way : View → ℕ → ℕ → Bool
is_way v zero k = k / 2 ^ 48 == 2 ^ 13
is_way v (suc n) k = (k / 2 ^ 48 == 2 ^ 13) || list_any (λ x. (k / 2 ^ 32 == 2 ^ 30 + x.0) && is_way v n x.1) v.keys

-- the cell of an instance is seen settled at this place: its key is that of a query, or of an attribute with at most three arguments
unfoldable pub is_known_at : View → ℕ → Bool
is_known_at v q = list_any (λ x. (x.0 == q) && ((x.1 / 2 ^ 32 == 2 ^ 31) || is_way v 3 x.1)) v.values

-- how many of the cells below n aren't those of instances that are seen settled
abbrev pub unsettled : View → ℕ → ℕ
unsettled v zero = 0
unsettled v (suc n) = (if is_known_at v n then 0 else 1) + unsettled v n

-- What settling i on demand says, with the counts of evaluations before and after. It takes some only where the value word of i wasn't settled, as it was
-- loaded meanwhile, and then fewer than twice as many as cells came to be seen settled.
pub record Solves (p : Program) (names : Naming) (f : Frame) (v w : View) (i : Instance) (before after : ℕ) (result : Result Unit AskFault) : Type 0 where
  pub answer : AnswersSolve p names f w i result
  pub claims : ClaimsKeys p i v w
  pub loads : (after ≡ before) ⊎ WasUnsettled p f v w i
  pub cost : IsOk result → (after ≡ before) ⊎ (after + 2 * unsettled w f.cells < before + 2 * unsettled v f.cells)

-- A circular instance that leads to i came to be seen settled, and its cell is left to pay for one evaluation more.
abbrev pub LeavesOne : Program → Frame → View → View → Instance → ℕ → ℕ → Type 0
LeavesOne p f v w i before after = (h : Instance) → Chain p h i → (equations_of p).circular h ≡ true → ¬ Knows p v h → Knows p w h → after + 1 + 2 * unsettled w f.cells < before + 2 * unsettled v f.cells

-- What settling n says, which a local set needs: a loop begins with the start of that.
pub record SolvesFor (p : Program) (names : Naming) (f : Frame) (v w : View) (l : Local) (n : Instance) (before after : ℕ) (result : Result Unit AskFault) : Type 0 where
  pub settled : IsOk result → Knows p w n
  pub fault : (fault : AskFault) → result ≡ Err fault → StopsAt p names f w (instance_by p names l.start) fault
  pub claims : ClaimsKeys p n v w
  pub cost : IsOk result → after + 2 * unsettled w f.cells < before + 2 * unsettled v f.cells
  pub start : IsOk result → ¬ Knows p v (instance_by p names l.start) → Knows p w (instance_by p names l.start) → after + 1 + 2 * unsettled w f.cells < before + 2 * unsettled v f.cells

-- the same of a pass at its cells by each naming that agrees with it, with what it knew and knows
abbrev pub SolvesNeed : Held → Held → Local → CodedInstance → ℕ → ℕ → Result Unit AskFault → Type 0
SolvesNeed d e l n before after result = ByEachAgreeing (program_at d) e.view.made (λ names. SolvesFor (program_at d) names d.frame d.view e.view l (instance_by (program_at d) names n) before after result)

-- What going on with the local set of i says, with the counts of evaluations before and after: more cells are seen settled then, and where the
-- cell of i is one of them, it is left to pay.
pub record ClosesMore (p : Program) (names : Naming) (f : Frame) (v w : View) (i : Instance) (before after : ℕ) (result : Result Unit AskFault) : Type 0 where
  pub fault : (fault : AskFault) → result ≡ Err fault → StopsAt p names f w i fault
  pub claims : ClaimsKeys p i v w
  pub cost : IsOk result → after + 2 * unsettled w f.cells ≤ before + 2 * unsettled v f.cells
  pub known : IsOk result → Knows p w i → after + 2 * unsettled w f.cells < before + 2 * unsettled v f.cells
  pub falls : IsOk result → unsettled w f.cells < unsettled v f.cells

-- the same of a pass at its cells and a local set by each naming that agrees with the pass, with what it knew and knows
abbrev pub ClosesLocal : Held → Held → Local → ℕ → ℕ → Result Unit AskFault → Type 0
ClosesLocal d e l before after result = ByEachAgreeing (program_at d) e.view.made (λ names. ClosesMore (program_at d) names d.frame d.view e.view (instance_by (program_at d) names l.start) before after result)

-- where the cell was seen settled, it takes no evaluation, and only the value of a set takes memory
abbrev pub AnswersKnown : Program → Instance → Result CodedValue AskFault → Type 0
AnswersKnown p i (Ok x) = Unit {0}
AnswersKnown p i (Err (Circular on chain)) = ⊥
AnswersKnown p i (Err CellsFull) = ⊥
AnswersKnown p i (Err Memory) = is_single (kind_in p i) ≡ false

-- What asking for i says, with the counts of evaluations before and after. An answer takes none, or fewer than twice as many as cells came
-- to be seen settled.
pub record Asks (p : Program) (names : Naming) (f : Frame) (v w : View) (i : Instance) (before after : ℕ) (result : Result CodedValue AskFault) : Type 0 where
  pub answer : AnswersAsk p names f w i result
  pub circular : IsCircular result → HasLoop p i
  pub claims : ClaimsKeys p i v w
  pub known : Knows p v i → AnswersKnown p i result × (after ≡ before)
  pub loads : (after ≡ before) ⊎ WasUnsettled p f v w i
  pub cost : IsOk result → (after ≡ before) ⊎ (after + 2 * unsettled w f.cells < before + 2 * unsettled v f.cells)

-- What asking for i says where the caller may have noted that instances have loops: the same, but for the chain of `Circular`.
pub record AsksNoted (p : Program) (names : Naming) (f : Frame) (v w : View) (i : Instance) (before after : ℕ) (result : Result CodedValue AskFault) : Type 0 where
  pub answer : AnswersNoted p names f w i result
  pub circular : IsCircular result → HasLoop p i
  pub claims : ClaimsKeys p i v w
  pub known : Knows p v i → AnswersKnown p i result × (after ≡ before)
  pub loads : (after ≡ before) ⊎ WasUnsettled p f v w i
  pub cost : IsOk result → (after ≡ before) ⊎ (after + 2 * unsettled w f.cells < before + 2 * unsettled v f.cells)

-- what asking for a coded instance says, by each naming that agrees with what is known then
abbrev pub AsksByEach : Program → Frame → View → View → CodedInstance → ℕ → ℕ → Result CodedValue AskFault → Type 0
AsksByEach p f v w i before after result = ByEachAgreeing p w.made (λ names. Asks p names f v w (instance_by p names i) before after result)

-- the same where the caller may have noted loops
abbrev pub AsksNotedByEach : Program → Frame → View → View → CodedInstance → ℕ → ℕ → Result CodedValue AskFault → Type 0
AsksNotedByEach p f v w i before after result = ByEachAgreeing p w.made (λ names. AsksNoted p names f v w (instance_by p names i) before after result)
