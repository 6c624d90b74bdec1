-- Searches for the members of a local set that lead to something that is missing.
use Rattle.std.specs.Prelude.{◌≡◌, ◌⊎◌, ℕ, ◌+◌, ◌*◌, ◌<◌, ◌≤◌, Bool, true, cond, List, [], ◌∷◌, Contains, Some, length, slice_get}
use Rattle.worklists.specs.declared.search.Search.{Search}
use Rattle.worklists.specs.declared.worklist.Worklist.{Worklist}
use Rattle.worklists.specs.Waiting.{IsFresh, IsOpen, IsReader}

-- the member of this number was found
abbrev pub IsFound : Search → ℕ → Type 0
IsFound s k = slice_get s.found.items k ≡ Some true

-- how many weren't found
abbrev pub unfound : List Bool → ℕ
unfound [] = 0
unfound (b ∷ bs) = cond b 0 1 + unfound bs

-- how many steps are left at most: each member is found once, and the search goes on from it once
abbrev pub steps_left : Search → ℕ
steps_left s = 2 * unfound s.found.items + length s.waiting.items

-- of so many members none was found
pub record IsNewSearch (count : ℕ) (s : Search) : Type 0 where
  pub len : length s.found.items ≡ count
  pub none : (k : ℕ) → ¬ IsFound s k
  pub waiting : s.waiting.items ≡ []

-- the search found more, which are such members, and is to go on from those
pub record Finds (P : ℕ → Type 0) (old new : Search) : Type 0 where
  pub len : length new.found.items ≡ length old.found.items
  pub kept : (k : ℕ) → IsFound old k → IsFound new k
  pub waits : (k : ℕ) → Contains old.waiting.items k → Contains new.waiting.items k
  pub found : (k : ℕ) → IsFound new k → IsFound old k ⊎ (P k × Contains new.waiting.items k)
  pub only : (k : ℕ) → Contains new.waiting.items k → Contains old.waiting.items k ⊎ IsFound new k
  pub left : steps_left new ≤ steps_left old

-- a search for the open members that may have to go on: from what it found, it went on or is to go on
pub record IsSearch (w : Worklist) (stopped : ℕ) (s : Search) : Type 0 where
  pub marks : length s.found.items ≡ length w.noted.items
  pub leads : (k : ℕ) → IsFound s k → IsOpen w stopped k
  pub waiting : (k : ℕ) → Contains s.waiting.items k → IsFound s k
  pub begins : stopped < length w.noted.items → IsFound s stopped
  pub fresh : (k : ℕ) → IsFresh w k → IsFound s k
  pub read : (k reader : ℕ) → IsFound s k → IsReader w k reader → reader < length w.noted.items → Contains s.waiting.items k ⊎ IsFound s reader

-- exactly the open members were found
pub record FindsOpen (w : Worklist) (stopped : ℕ) (s : Search) : Type 0 where
  pub marks : length s.found.items ≡ length w.noted.items
  pub leads : (k : ℕ) → IsFound s k → IsOpen w stopped k
  pub all : (k : ℕ) → k < length w.noted.items → IsOpen w stopped k → IsFound s k
