-- Readers that hold a pass of some cells.
use Rattle.std.specs.Prelude.{◌≡◌, ℕ, IfNone, IfSome, List, Option}
use Rattle.equation_law.specs.declared.coding.Instance.{Instance as CodedInstance}
use Rattle.equation_law.specs.declared.system.System.{System}
use Rattle.equation_law.specs.Checked.{HasSourcesAlone, IsInstance}
use Rattle.equation_law.specs.Codes.{IsCoded, Naming, instance_by}
use Rattle.equation_law.specs.Equations.{HasValue}
use Rattle.equation_law.specs.Names.{Instance}
use Rattle.equation_law.specs.Program.{Program}
use Rattle.equation_law.specs.Reading.{ByEachIn, Told}
use Rattle.equation_law.specs.Systems.{program_of}
use Rattle.equation_law.specs.Values.{Value}
use Rattle.memo_cells.specs.declared.keys.Slot.{Slot}
use Rattle.memo_cells.specs.declared.view.Frame.{Frame}
use Rattle.memo_cells.specs.declared.view.View.{View}
use Rattle.memo_cells.specs.Agreeing.{Agrees, ByEachAgreeing, IsKnownInstance, IsKnownNode}
use Rattle.memo_cells.specs.Claiming.{ClaimsKeys}
use Rattle.memo_cells.specs.Causes.{IsLogOn, WhyMissing}
use Rattle.memo_cells.specs.Naming.{ClaimsKeysTo, IsCellOf, IsFormed, IsWayKey, LacksCell}
use Rattle.memo_cells.specs.Standing.{ClaimsForSet, HasKnownWord, HasWord, IsMissing, IsOfSet, IsPassOf, Knows, MayRaise, MaySeal, MaySettle, ShowsWord}
use Rattle.memo_cells.specs.Steps.{AreSealed}
use Rattle.memo_cells.specs.Views.{ClaimsOnly, IsAtLeast, IsFull, IsPlain, IsSlot}

-- what such a reader holds: the cells, what the pass knows, and the reference through which the pass is held
pub record Held : Type 0 where
  pub frame : Frame
  pub view : View
  pub lender : ℕ

-- the program of the cells
abbrev pub program_at : Held → Program
program_at d = program_of d.frame.system.value

-- the cells are those of this system
abbrev pub IsForSystem : Held → System → Type 0
IsForSystem d s = d.frame.system.value ≡ s

-- it is a pass of these cells
abbrev pub IsOwn : Held → Type 0
IsOwn d = IsPassOf d.frame d.view

-- the cell of i is seen settled, and its value in the solution is w
abbrev pub IsKnown : Program → View → Instance → Value → Type 0
IsKnown p v i w = Knows p v i × HasValue p i w

-- e is d later: the same cells and reference, and a pass of these cells that knows at least what it knew, by what its steps found since
pub record GoesOn (d e : Held) : Type 0 where
  pub cells : e.frame ≡ d.frame
  pub lender : e.lender ≡ d.lender
  pub own : IsOwn e
  pub kept : IsAtLeast d.view e.view
  pub log : IsLogOn d.view e.view

-- it claimed nothing since
pub record ReadsOn (d e : Held) : Type 0 where
  pub on : GoesOn d e
  pub claims : e.view.claims ≡ d.view.claims

-- the key k has its slot at place s, with what is held before and after
abbrev pub IsSlotAt : Held → Held → ℕ → ℕ → Type 0
IsSlotAt d e s k = IsSlot d.frame e.view s k

-- this place has no word of a set
abbrev pub IsPlainAt : Held → ℕ → Type 0
IsPlainAt d s = IsPlain d.view s

-- the key is missing now
abbrev pub IsMissingAt : Held → Held → ℕ → Type 0
IsMissingAt d e k = IsMissing (program_at d) e.view k

-- why it wasn't found
abbrev pub WhyMissingAt : Held → Held → ℕ → Type 0
WhyMissingAt d e k = WhyMissing d.frame d.view e.view k

-- it is the key of a cell of the program, by the keys that are seen claimed
abbrev pub IsFormedAt : Held → ℕ → Type 0
IsFormedAt d k = IsFormed (program_at d) d.view k

-- other keys than k have all the cells now
abbrev pub IsFullAt : Held → Held → ℕ → Type 0
IsFullAt d e k = IsFull d.frame e.view k

-- what was claimed is a cell of the key k
abbrev pub ClaimsOnlyAt : Held → Held → ℕ → Type 0
ClaimsOnlyAt d e k = ClaimsOnly d.view e.view k

-- by each naming that agrees with what is held
abbrev pub ByEachAt : Held → (Naming → Type 0) → Type 0
ByEachAt d holds = ByEachAgreeing (program_at d) d.view.made holds

-- the instance that is coded so is one of the program
abbrev pub IsInstanceAt : Held → CodedInstance → Type 0
IsInstanceAt d i = ByEachAt d (λ n. IsInstance (program_at d) (instance_by (program_at d) n i))

-- the pass knows the node and the arguments of a coded instance
abbrev pub IsKnownAt : Held → CodedInstance → Type 0
IsKnownAt d i = IsKnownInstance (program_at d) d.view.made i

-- it is coded well
abbrev pub IsCodedAt : Held → CodedInstance → Type 0
IsCodedAt d i = IsCoded (program_at d) i

-- its cell is seen claimed at place s: d is what was held before, and e what is held now
abbrev pub IsCellAt : Held → Held → CodedInstance → ℕ → Type 0
IsCellAt d e i s = ByEachAgreeing (program_at d) e.view.made (λ n. IsCellOf (program_at d) d.frame e.view (instance_by (program_at d) n i) s)

-- its cell is seen claimed at place s now
abbrev pub IsCellNow : Held → CodedInstance → ℕ → Type 0
IsCellNow d i s = IsCellAt d d i s

-- its cell is seen settled
abbrev pub KnowsAt : Held → CodedInstance → Type 0
KnowsAt d i = ByEachAt d (λ n. Knows (program_at d) d.view (instance_by (program_at d) n i))

-- other keys have all the cells than some key on the way to its cell
abbrev pub LacksCellAt : Held → Held → CodedInstance → Type 0
LacksCellAt d e i = ByEachAgreeing (program_at d) e.view.made (λ n. LacksCell (program_at d) d.frame e.view (instance_by (program_at d) n i))

-- what was claimed are cells on the way to its cell
abbrev pub ClaimsKeysAt : Held → Held → CodedInstance → Type 0
ClaimsKeysAt d e i = ByEachAgreeing (program_at d) e.view.made (λ n. ClaimsKeysTo (program_at d) d.view e.view (instance_by (program_at d) n i))

-- what was claimed are cells of its keys
abbrev pub ClaimsKeysFor : Held → Held → CodedInstance → Type 0
ClaimsKeysFor d e i = ByEachAgreeing (program_at d) e.view.made (λ n. ClaimsKeys (program_at d) (instance_by (program_at d) n i) d.view e.view)

-- what looking for it finds, if it is coded well and the pass knows its nodes: where it finds a slot, its cell is seen claimed there
abbrev pub FindsCell : Held → Held → CodedInstance → Option Slot → Type 0
FindsCell d e i found = IsCodedAt d i → IsKnownAt d i → IfSome found (λ s. IsCellAt d e i s.0)

-- its cell is the one that was found at place s, and the pass knows its nodes: its codes are those of the key there
abbrev pub IsItsCell : Held → Held → CodedInstance → ℕ → Type 0
IsItsCell d e i s = IsKnownInstance (program_at d) e.view.made i × IsCellAt d e i s

-- where it finds none, its cell is seen claimed nowhere
abbrev pub MissesCell : Held → Held → CodedInstance → Option Slot → Type 0
MissesCell d e i found = IsCodedAt d i → IsKnownAt d i → IfNone found ((s : ℕ) → ByEachAgreeing (program_at d) e.view.made (λ n. ¬ IsCellOf (program_at d) d.frame e.view (instance_by (program_at d) n i) s))

-- why: for a key on the way to it, whatever its codes stand for
abbrev pub WhyNoCell : Held → Held → CodedInstance → Option Slot → Type 0
WhyNoCell d e i found = IfNone found ((k : ℕ) × IsWayKey e.view i k × WhyMissing d.frame d.view e.view k)

-- the cell of some instance is seen claimed at this place
abbrev pub HasCell : Held → ℕ → Type 0
HasCell d place = (i : Instance) × IsCellOf (program_at d) d.frame d.view i place

-- what has its cell at this place may be settled with this code
abbrev pub MaySettleAt : Held → ℕ → ℕ → Type 0
MaySettleAt d place code = MaySettle (program_at d) d.view place code

-- these bits may be raised in the w-th word of what has its cell at this place
abbrev pub MayRaiseAt : Held → ℕ → ℕ → ℕ → Type 0
MayRaiseAt d place w bits = MayRaise (program_at d) d.view place w bits

-- x is that word now, and has these bits
abbrev pub HasWordAt : Held → Held → ℕ → ℕ → ℕ → ℕ → Type 0
HasWordAt d e place w bits x = HasWord (program_at d) d.frame e.view place w bits x

-- what the words of these cells show may be marked as the values
abbrev pub MaySealAt : Held → List ℕ → Type 0
MaySealAt d places = MaySeal (program_at d) d.frame d.view places

-- it is marked now
abbrev pub AreSealedAt : Held → Held → List ℕ → Type 0
AreSealedAt d e places = AreSealed d.view e.view places

-- x is the w-th word of what is shown now of what has its cell at this place
abbrev pub ShowsWordAt : Held → Held → ℕ → ℕ → ℕ → Type 0
ShowsWordAt d e place w x = ShowsWord d.frame e.view place w x

-- where what has its cell at this place was seen settled before, x is the w-th word of its value
abbrev pub HasKnownWordAt : Held → Held → ℕ → ℕ → ℕ → Type 0
HasKnownWordAt d e place w x = HasKnownWord d.frame d.view e.view place w x

-- what has its cell at this place is a set
abbrev pub IsOfSetAt : Held → Held → ℕ → Type 0
IsOfSetAt d e place = IsOfSet d.frame e.view place

-- what was claimed is for a set: where a truth value has its cell at this place, nothing was
abbrev pub ClaimsForSetAt : Held → Held → ℕ → Type 0
ClaimsForSetAt d e place = ClaimsForSet d.frame d.view e.view place

-- What a reader tells that holds a pass: it is for the program of the cells, it has the values of the instances whose cells are seen
-- settled, and reading lets the pass know no less. It may be read by each naming that agrees with what the pass knows, and knows the nodes that the pass
-- knows. The program makes nothing.
pub record TellsPass {S : Type 0} (held : S → Held) (d : S) (r : Told S) : Type 0 where
  pub for : IsOwn (held d) → r.for (program_at (held d))
  pub only : (p : Program) → r.for p → (p ≡ program_at (held d)) × HasSourcesAlone p
  pub has : (i : Instance) (w : Value) → IsKnown (program_at (held d)) (held d).view i w → r.has i w
  pub known : (i : Instance) (w : Value) → r.has i w → IsKnown (program_at (held d)) (held d).view i w
  pub can : (i : Instance) (w : Value) → r.can i w → HasValue (program_at (held d)) i w
  pub may : (i : Instance) (w : Value) → HasValue (program_at (held d)) i w → r.can i w
  pub keeps : (x : S) → r.keeps x → ReadsOn (held x) (held d)
  pub itself : IsOwn (held d) → r.keeps d
  pub each : ByEachAt (held d) r.names
  pub named : ByEachIn r (Agrees (program_at (held d)) (held d).view.made)
  pub knows : (c : ℕ) → IsKnownNode (held d).view.made c → r.knows c
  pub known_alone : (c : ℕ) → r.knows c → IsKnownNode (held d).view.made c

-- what such a reader tells, which is seen as what it holds
abbrev pub told_by : Held → Told Held
told_by d = record {
  for = λ p. (p ≡ program_at d) × HasSourcesAlone p;
  has = IsKnown (program_at d) d.view;
  can = HasValue (program_at d);
  keeps = λ x. ReadsOn x d;
  names = Agrees (program_at d) d.view.made;
  knows = IsKnownNode d.view.made;
  height = λ c. c;
}
