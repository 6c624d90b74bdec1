-- Words of two sets side by side.
use Rattle.std.specs.Prelude.{◌≡◌, ◌+◌, ◌<◌, ◌≤◌, ◌^◌, ◌==◌, ◌++◌, ◌∷◌, ◌&&◌, ◌||◌, ℕ, Bool, List, [], length, not, ◌⊎◌, if◌then◌else◌}
use Rattle.std.specs.List.{AllByRecursion}
use Rattle.code_sets.specs.declared.merges.Operation.{Operation}
use Rattle.code_sets.specs.declared.merges.Operation.TheVariants.{Union, Inter, Minus}
use Rattle.code_sets.specs.declared.word.Word.{Word}
use Rattle.code_sets.specs.Words.{AreWords, codes_of_word, codes_of_words, numbers_of}

-- whether a code is kept, by whether the one set has it and whether the other has it
abbrev pub keeps : Operation → Bool → Bool → Bool
keeps Union = λ a b. a || b
keeps Inter = λ a b. a && b
keeps Minus = λ a b. a && not b

-- the lowest number of the words of two sets
pub record IsFirstNumber (ours theirs : List Word) (number : ℕ) : Type 0 where
  pub ours_from : AllByRecursion (λ n. number ≤ n) (numbers_of ours)
  pub theirs_from : AllByRecursion (λ n. number ≤ n) (numbers_of theirs)
  pub greatest : (n : ℕ) → AllByRecursion (λ m. n ≤ m) (numbers_of ours) → AllByRecursion (λ m. n ≤ m) (numbers_of theirs) → n ≤ number
  pub small : number < 2 ^ 26

-- words without that of a number, whose bits are given (0 where there is none), and below which there was none
pub record IsParted (words : List Word) (number bits : ℕ) (rest : List Word) : Type 0 where
  pub parts : codes_of_words words ≡ codes_of_word number bits ++ codes_of_words rest
  pub left : AreWords rest
  pub after : AllByRecursion (λ n. number < n) (numbers_of rest)
  pub shorter : (length rest + 1 ≡ length words) ⊎ (rest ≡ words)

-- the word of some bits, and none where there is no bit
abbrev pub word_of : ℕ → ℕ → List Word
word_of number bits = if bits == 0 then [] else record { number = number; bits = bits } ∷ []
