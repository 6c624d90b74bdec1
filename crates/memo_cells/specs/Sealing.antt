-- The words while the slots of a set are sealed one after the other.
use Rattle.std.specs.Prelude.{◌≡◌, ℕ, ◌<◌, ◌≤◌, ◌⊎◌, List, [], Some, drop, length, map, slice_get}
use Rattle.equation_law.specs.declared.coding.Instance.{Instance as CodedInstance}
use Rattle.equation_law.specs.Systems.{program_of}
use Rattle.memo_cells.specs.declared.keys.Slot.{Slot}
use Rattle.memo_cells.specs.declared.view.Frame.{Frame}
use Rattle.memo_cells.specs.Causes.{IsLogOn, LogsValue}
use Rattle.memo_cells.specs.Standing.{AreWords, IsSeatOf, IsTold, MaySeal}
use Rattle.memo_cells.specs.Steps.{IsSealedAt}
use Rattle.memo_cells.specs.declared.view.View.{View}
use Rattle.memo_cells.specs.Views.{Has, IsAtLeast, knows_all}

-- the places of these slots
abbrev pub places : List Slot → List ℕ
places slots = map (λ s. s.0) slots

-- those that are left to seal when so many are sealed
abbrev pub places_left : ℕ → List Slot → List ℕ
places_left n slots = places (drop n slots)

-- the words of the cells of f while these slots are sealed, of which some are left: all of them together may be sealed, and what stands in each is
-- settled, or the slot is left
pub record AreSealing (f : Frame) (ms : List CodedInstance) (slots left ks vs : List ℕ) : Type 0 where
  pub few : f.cells ≤ 4194304
  pub keys : length ks ≡ f.cells
  pub long : length vs ≡ f.cells
  pub words : AreWords f ms left ks vs
  pub may : MaySeal (program_of f.system.value) f (knows_all f ms left ks vs) slots
  pub each : (s k : ℕ) → Has slots s → Has (knows_all f ms left ks vs).keys (s, k) → Has left s ⊎ IsSealedAt (knows_all f ms left ks vs) s k

-- more of them are sealed: what has seen these words is a pass that has only the others left, and it knows no less
pub record SealsOn (f : Frame) (ms : List CodedInstance) (slots before left ks vs ws : List ℕ) : Type 0 where
  pub sealing : AreSealing f ms slots left ks ws
  pub own : IsSeatOf f (knows_all f ms left ks ws) left
  pub kept : IsAtLeast (knows_all f ms before ks vs) (knows_all f ms left ks ws)

-- so many of these slots are sealed
abbrev pub AreSealedTo : Frame → List CodedInstance → List Slot → ℕ → List ℕ → List ℕ → Type 0
AreSealedTo f ms set n ks vs = AreSealing f ms (places set) (places_left n set) ks vs

-- of which fewer were
abbrev pub SealsTo : Frame → List CodedInstance → List Slot → ℕ → ℕ → List ℕ → List ℕ → List ℕ → Type 0
SealsTo f ms set n m ks vs ws = SealsOn f ms (places set) (places_left n set) (places_left m set) ks vs ws

-- all of them are, of which none was
abbrev pub SealsAll : Frame → List CodedInstance → List Slot → List ℕ → List ℕ → List ℕ → Type 0
SealsAll f ms set ks vs ws = SealsOn f ms (places set) (places set) [] ks vs ws

-- A pass that knew v knows w now, which stands in these words: what stands in the slot of this number is seen settled.
pub record TellsNext (f : Frame) (ms : List CodedInstance) (set : List Slot) (number : ℕ) (ks vs : List ℕ) (v w : View) : Type 0 where
  pub told : IsTold f ms ks vs w
  pub kept : IsAtLeast v w
  pub log : IsLogOn v w
  pub sealed : (s k : ℕ) → slice_get (places set) number ≡ Some s → Has v.keys (s, k) → IsSealedAt w s k
  pub claims : w.claims ≡ v.claims

-- its log has one entry more: what stood in the value word of that slot
abbrev pub LogsNext : Frame → List Slot → ℕ → List ℕ → View → View → Type 0
LogsNext f set number vs v w = (s x : ℕ) → slice_get (places set) number ≡ Some s → slice_get vs s ≡ Some x → LogsValue f v w s x

-- the same of the first so many of them
pub record TellsSealed (f : Frame) (ms : List CodedInstance) (set : List Slot) (count : ℕ) (ks vs : List ℕ) (v w : View) : Type 0 where
  pub told : IsTold f ms ks vs w
  pub kept : IsAtLeast v w
  pub log : IsLogOn v w
  pub sealed : (number s k : ℕ) → number < count → slice_get (places set) number ≡ Some s → Has v.keys (s, k) → IsSealedAt w s k
  pub claims : w.claims ≡ v.claims
