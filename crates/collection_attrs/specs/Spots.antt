-- For each receiver where the last entry with it stands, in a tree of spots.
use Rattle.std.specs.Prelude.{◌≡◌, ℕ, ◌/◌, ◌%◌, ◌<◌, ◌^◌, ◌⊎◌, List, [], ◌∷◌, Option, Some, None, cond, eqb, length, slice_get}
use Rattle.equation_law.specs.declared.coding.NodeRef.{NodeRef}
use Rattle.collection_attrs.specs.declared.lasts.Spot.{Spot}

-- where the last entry with a receiver stands, as its spot says
abbrev pub last_of : List Spot → NodeRef → Option ℕ
last_of [] n = None
last_of (s ∷ ss) n = cond (eqb s.receiver.0 n.0) (Some s.last) (last_of ss n)

-- which spot stands below another for what is left of a code; 0 where none does
abbrev pub below_of : Spot → ℕ → ℕ
below_of s left = cond (eqb (left % 2) 0) s.even s.odd

-- a spot with another below it
abbrev pub hung : Spot → ℕ → ℕ → Spot
hung s left place = record { receiver = s.receiver; last = s.last; even = cond (eqb (left % 2) 0) place s.even; odd = cond (eqb (left % 2) 0) s.odd place }

-- the way that a code leads downwards, from a spot to another: at each step half of it is left
pub data Leads (ss : List Spot) : ℕ → ℕ → ℕ → ℕ → Type 0 where
  here : {at left : ℕ} → Leads ss at left at left
  down : {at left to rest : ℕ} (s : Spot) → slice_get ss at ≡ Some s → (below_of s left ≡ 0 → ⊥) → Leads ss (below_of s left) (left / 2) to rest → Leads ss at left to rest

-- Spots are a tree: what stands below a spot stands behind it, no two are for one receiver, and the code of each one's receiver leads to it from the first.
pub record IsTree (ss : List Spot) : Type 0 where
  pub few : length ss < 2 ^ 32
  pub below : (i : ℕ) (s : Spot) (left : ℕ) → slice_get ss i ≡ Some s → (below_of s left ≡ 0) ⊎ ((i < below_of s left) × (below_of s left < length ss))
  pub one : (i j : ℕ) (s t : Spot) → slice_get ss i ≡ Some s → slice_get ss j ≡ Some t → s.receiver.0 ≡ t.receiver.0 → i ≡ j
  pub led : (i : ℕ) (s : Spot) → slice_get ss i ≡ Some s → (rest : ℕ) × Leads ss 0 s.receiver.0 i rest
