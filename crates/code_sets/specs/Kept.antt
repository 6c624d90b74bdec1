-- The words of a set, as they are kept.
use Rattle.std.specs.Prelude.{ℕ, List, [], ◌∷◌, bit_or, slice_index_or, slice_set}
use Rattle.code_sets.specs.declared.kept.Kept.{Kept}
use Rattle.code_sets.specs.declared.kept.Kept.TheVariants.{Empty, One, Many}
use Rattle.code_sets.specs.declared.word.Word.{Word}

-- the words that are kept
abbrev pub words_of : Kept → List Word
words_of Empty = []
words_of (One word) = word ∷ []
words_of (Many shared) = shared.value.items

-- the word at a place has more bits
abbrev pub with_bits : List Word → ℕ → ℕ → List Word
with_bits words at bits =
    let word = slice_index_or words at (record { number = 0; bits = 0 }) in
    slice_set words at (record { number = word.number; bits = bit_or word.bits bits })
