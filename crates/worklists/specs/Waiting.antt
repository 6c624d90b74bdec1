-- The members that are to be evaluated.
use Rattle.std.specs.Prelude.{◌≡◌, ◌⊎◌, ◌+◌, ◌<◌, ℕ, false, List, Contains, Some, length, slice_get}
use Rattle.worklists.specs.declared.due.Due.{Due}
use Rattle.worklists.specs.declared.worklist.Noted.{Noted}
use Rattle.worklists.specs.declared.worklist.Worklist.{Worklist}

-- the second list has all numbers of the first
pub record IsWithin (ks js : List ℕ) : Type 0 where
  pub has : (k : ℕ) → Contains ks k → Contains js k

-- the member of this number is due, in this sweep or the next one
abbrev pub IsDue : Due → ℕ → Type 0
IsDue d k = Contains d.sweep.keys k ⊎ Contains d.later.keys k

-- the members that were due are due
pub record StillDue (d e : Due) : Type 0 where
  pub due : (k : ℕ) → IsDue d k → IsDue e k

-- how many are due
abbrev pub due_count : Due → ℕ
due_count d = length d.sweep.keys + length d.later.keys

-- the second member read the value of the first
pub record IsReader (w : Worklist) (number reader : ℕ) : Type 0 where
  pub of : Noted
  pub noted : slice_get w.noted.items number ≡ Some of
  pub has : Contains of.readers.keys reader

-- what is noted, and how much was read and looked at, is the same
pub record IsSameBesideDue (v w : Worklist) : Type 0 where
  pub noted : w.noted ≡ v.noted
  pub effort : w.effort ≡ v.effort
  pub cost : w.cost ≡ v.cost

-- what the member of this number reads isn't noted yet
pub record IsFresh (w : Worklist) (k : ℕ) : Type 0 where
  pub of : Noted
  pub noted : slice_get w.noted.items k ≡ Some of
  pub fresh : of.evaluated ≡ false

-- a way of reads leads from the member of this number to the one that stopped or to one whose reads aren't noted: from each to one whose value it read
pub data IsOpen (w : Worklist) (stopped : ℕ) : ℕ → Type 0 where
  stops : IsOpen w stopped stopped
  fresh : {k : ℕ} → IsFresh w k → IsOpen w stopped k
  reads : {number reader : ℕ} → IsReader w number reader → IsOpen w stopped number → IsOpen w stopped reader

-- a member from which none leads there
pub record IsClosed (w : Worklist) (stopped k : ℕ) : Type 0 where
  pub member : k < length w.noted.items
  pub closed : ¬ IsOpen w stopped k

-- these are the closed members
pub record AreClosed (w : Worklist) (stopped : ℕ) (ks : List ℕ) : Type 0 where
  pub closed : (k : ℕ) → Contains ks k → IsClosed w stopped k
  pub all : (k : ℕ) → IsClosed w stopped k → Contains ks k
