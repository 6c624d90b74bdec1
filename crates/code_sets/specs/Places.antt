-- Where a word is among words that rise, or would go.
use Rattle.std.specs.Prelude.{◌≡◌, ◌<◌, ◌≤◌, ℕ, List, length, take, drop, slice_index_or}
use Rattle.std.specs.List.{AllByRecursion}
use Rattle.code_sets.specs.declared.word.Word.{Word}
use Rattle.code_sets.specs.Words.{numbers_of}

-- the word at a place has the number
pub record IsAt (words : List Word) (number place : ℕ) : Type 0 where
  pub in_range : place < length words
  pub has_number : (default : Word) → (slice_index_or words place default).number ≡ number

-- a word of the number would go to a place: smaller numbers before it, and greater ones from it on
pub record IsGapFor (words : List Word) (number place : ℕ) : Type 0 where
  pub in_range : place ≤ length words
  pub before : AllByRecursion (λ n. n < number) (numbers_of (take place words))
  pub after : AllByRecursion (λ n. number < n) (numbers_of (drop place words))
