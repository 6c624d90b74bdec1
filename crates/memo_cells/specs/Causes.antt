-- What steps found, and why a call found nothing: by what its steps found.
use Rattle.std.specs.Prelude.{◌≡◌, ℕ, ◌^◌, ◌<◌, ◌⊎◌, ◌==◌, List, ◌∷◌, ◌++◌, bit_or, if◌then◌else◌}
use Rattle.memo_cells.specs.declared.view.Frame.{Frame}
use Rattle.memo_cells.specs.declared.view.View.{View}
use Rattle.memo_cells.specs.Views.{Has, IsFull, IsPassed, key_word_at, value_word_at}

-- what the steps since then found stands before what had been found
pub record IsLogOn (v w : View) : Type 0 where
  pub more : List (ℕ × ℕ)
  pub is : w.found ≡ more ++ v.found

-- a step found x in the value word of this place, and that alone stands before what had been found
abbrev pub LogsValue : Frame → View → View → ℕ → ℕ → Type 0
LogsValue f v w place x = w.found ≡ (value_word_at f.cells place, x) ∷ v.found

-- the same of what a step found that set these bits there and left this word
pub record LogsBits (f : Frame) (v w : View) (place bits left : ℕ) : Type 0 where
  pub found : ℕ
  pub log : LogsValue f v w place found
  pub is : left ≡ bit_or found bits

-- the same of what one found that left 1 where 0 stood, and any other word as it was
pub record LogsTruth (f : Frame) (v w : View) (place left : ℕ) : Type 0 where
  pub found : ℕ
  pub log : LogsValue f v w place found
  pub is : left ≡ (if found == 0 then 1 else found)

-- a step since then found x in this word
pub record FoundSince (v w : View) (word x : ℕ) : Type 0 where
  pub log : IsLogOn v w
  pub there : Has log.more (word, x)

-- a key word on the way of k, as loaded in this call, was 0, and k doesn't stand before it
pub record IsFreeOnWay (f : Frame) (v w : View) (k : ℕ) : Type 0 where
  pub place : ℕ
  pub inside : place < f.cells
  pub found : FoundSince v w (key_word_at place) 0
  pub passed : IsPassed f w k place

-- why a key wasn't found: that, or other keys are seen to have all the cells
abbrev pub WhyMissing : Frame → View → View → ℕ → Type 0
WhyMissing f v w k = IsFreeOnWay f v w k ⊎ IsFull f w k

-- why no settled value was found at a place: its value word, as loaded in this call, wasn't settled
pub record WhyUnsettled (f : Frame) (v w : View) (place : ℕ) : Type 0 where
  pub word : ℕ
  pub unset : word < 2 ^ 63
  pub found : FoundSince v w (value_word_at f.cells place) word
