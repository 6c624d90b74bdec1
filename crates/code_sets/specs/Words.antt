-- Codes as the bits of words of 64: the bit b of the word w stands for the code 64 * w + b.
use Rattle.std.specs.Prelude.{◌≢◌, ◌*◌, ◌<◌, ◌%◌, ◌^◌, ◌==◌, ℕ, Bool, List, map}
use Rattle.std.specs.Int.{bit_at}
use Rattle.std.specs.List.{AllByRecursion, filter, flat_map, range_with_len}
use Rattle.code_sets.specs.declared.word.Word.{Word}
use Rattle.code_sets.specs.Members.{Rises}

-- whether bits have the one that stands for the code in its word
abbrev pub has_bit : ℕ → ℕ → Bool
has_bit bits c = bit_at bits (c % 64) == 1

-- the codes of a word, in their order: those of its 64 whose bits are set
unfoldable pub codes_of_word : ℕ → ℕ → List ℕ
codes_of_word word bits = filter (has_bit bits) (range_with_len (64 * word) 64)

abbrev pub codes_of_words : List Word → List ℕ
codes_of_words words = flat_map (λ word. codes_of_word word.number word.bits) words

abbrev pub numbers_of : List Word → List ℕ
numbers_of words = map (λ word. word.number) words

-- a word of 64 bits has codes, and they are numbers of 32 bits
pub record IsWord (word : Word) : Type 0 where
  pub small : word.number < 2 ^ 26
  pub some : word.bits ≢ 0
  pub fits : word.bits < 2 ^ 64

-- words in the order of their numbers
pub record AreWords (words : List Word) : Type 0 where
  pub rise : Rises (numbers_of words)
  pub each : AllByRecursion IsWord words
