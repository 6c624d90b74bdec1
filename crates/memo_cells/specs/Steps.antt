-- What a single step on the words tells a pass: `v` is what it knew, `w` what it knows then, and `found` the word that stood there.
use Rattle.std.specs.Prelude.{◌≡◌, ◌≢◌, ℕ, ◌+◌, ◌-◌, ◌^◌, ◌<◌, ◌≤◌, ◌⊎◌, List, ◌∷◌}
use Rattle.std.specs.Int.{bit_at}
use Rattle.equation_law.specs.Program.{Program}
use Rattle.equation_law.specs.Systems.{program_of}
use Rattle.memo_cells.specs.declared.probe.Search.{Search}
use Rattle.memo_cells.specs.declared.probe.Search.TheVariants.{At, Nowhere, Passed}
use Rattle.memo_cells.specs.declared.view.Frame.{Frame}
use Rattle.memo_cells.specs.declared.view.View.{View}
use Rattle.memo_cells.specs.Causes.{IsFreeOnWay}
use Rattle.memo_cells.specs.Standing.{IsMissing, IsValueWord}
use Rattle.memo_cells.specs.Views.{Has, key_word_at, value_word_at, IsOtherIn, IsPassed, IsSlot, shown_bits, times}

-- it read a key word: a free place behind other keys alone tells that the key that leads there is missing
pub record KeySeen (f : Frame) (v w : View) (place found : ℕ) : Type 0 where
  pub claimed : found ≢ 0 → Has w.keys (place, found)
  pub free : found ≡ 0 → (k : ℕ) → ¬ Has w.keys (place, k)
  pub nowhere : found ≡ 0 → (k : ℕ) → k ≢ 0 → IsPassed f v k place → IsMissing (program_of f.system.value) w k
  pub values : (q k c : ℕ) → Has w.values (q, k, c) → Has v.values (q, k, c)
  pub claims : w.claims ≡ v.claims
  pub log : w.found ≡ (key_word_at place, found) ∷ v.found

-- it tried to put a key
pub record KeyTried (v w : View) (place key found : ℕ) : Type 0 where
  pub won : found ≡ 0 → Has w.keys (place, key)
  pub lost : found ≢ 0 → Has w.keys (place, found)
  pub claims : (q : ℕ) → (times q w.claims ≡ times q v.claims) ⊎ ((found ≡ 0) × (q ≡ place))
  pub log : w.found ≡ (key_word_at place, found) ∷ v.found

-- it read a value word
pub record ValueSeen (f : Frame) (v w : View) (place found : ℕ) : Type 0 where
  pub settled : 2 ^ 63 ≤ found → (k : ℕ) → Has v.keys (place, k) → Has w.values (place, k, found - 2 ^ 63)
  pub unset : found < 2 ^ 63 → (k c : ℕ) → ¬ Has w.values (place, k, c)
  pub code : found < 2 ^ 63 + 2 ^ 32
  pub others : (q k c : ℕ) → Has w.values (q, k, c) → Has v.values (q, k, c) ⊎ (q ≡ place)
  pub claims : w.claims ≡ v.claims
  pub log : w.found ≡ (value_word_at f.cells place, found) ∷ v.found

-- it tried to settle a value word
pub record ValueTried (v w : View) (place put found : ℕ) : Type 0 where
  pub won : found ≡ 0 → (k : ℕ) → Has v.keys (place, k) → Has w.values (place, k, put)
  pub lost : found ≢ 0 → (2 ^ 63 ≤ found) × ((k : ℕ) → Has v.keys (place, k) → Has w.values (place, k, found - 2 ^ 63))
  pub code : found < 2 ^ 63 + 2 ^ 32
  pub stays : (k c : ℕ) → Has v.values (place, k, c) → found ≡ c + 2 ^ 63
  pub claims : w.claims ≡ v.claims

-- it read the bits of a value word: that of a settled value holds its code, and a word of a settled set is that of its value
pub record BitsSeen (p : Program) (v w : View) (place found : ℕ) : Type 0 where
  pub all : (k n : ℕ) → Has v.keys (place, k) → n < shown_bits k → bit_at found n ≡ 1 → Has w.bits (place, k, n)
  pub only : (k n : ℕ) → Has w.bits (place, k, n) → bit_at found n ≡ 1
  pub code : (k c : ℕ) → Has v.values (place, k, c) → found ≡ c + 2 ^ 63
  pub word : (k : ℕ) → Has v.keys (place, k) → IsValueWord p v k found
  pub keys : w.keys ≡ v.keys
  pub claims : w.claims ≡ v.claims

-- it set bits of a value word, and read it then
pub record BitsAdded (p : Program) (v w : View) (place put found : ℕ) : Type 0 where
  pub seen : BitsSeen p v w place found
  pub added : (n : ℕ) → bit_at put n ≡ 1 → bit_at found n ≡ 1

-- the cell of the key k at this place is seen settled
abbrev pub IsSealedAt : View → ℕ → ℕ → Type 0
IsSealedAt v place k = (c : ℕ) × Has v.values (place, k, c)

-- what stands in these slots is seen settled
abbrev pub AreSealed : View → View → List ℕ → Type 0
AreSealed v w slots = (s k : ℕ) → Has slots s → Has v.keys (s, k) → IsSealedAt w s k

-- what a search for the key k finds among the places from a on, below b: u is what the pass knew before it
abbrev pub IsSearched : Frame → View → View → ℕ → ℕ → ℕ → Search → Type 0
IsSearched f u v k a b (At p) = IsSlot f v p k
IsSearched f u v k a b Nowhere = IsMissing (program_of f.system.value) v k × IsFreeOnWay f u v k
IsSearched f u v k a b Passed = IsOtherIn v k a b
