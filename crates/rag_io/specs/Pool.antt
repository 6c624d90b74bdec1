-- What a pool of texts holds.
use Rattle.std.specs.Prelude.{◌≡◌, ◌↔◌, ℕ, ◌≤◌, List, [], ◌∷◌, ◌++◌, length, map, position, slice_get, if◌then◌else◌, is_some, IsTrue, Option, Some, Vec}
use Rattle.std.specs.Str.{bytes_eq}
use Rattle.std.specs.declared.alloc.Global.{Global}
use Rattle.std.specs.declared.hash.FoldHasher.{FoldHasher}
use Rattle.std.specs.declared.hash.BuildHasherDefault.{BuildHasherDefault}
use Rattle.indexmap.specs.IndexSet.{IndexSet, keys}
use Rattle.rag_io.specs.Distinct.{are_distinct}

-- a text without where it lies in memory
abbrev pub text_of : Vec ℕ Global → List ℕ
text_of text = text.items

-- the texts of a set, in its order
abbrev pub texts_of : IndexSet (Vec ℕ Global) (BuildHasherDefault FoldHasher) → List (List ℕ)
texts_of set = map text_of (keys set)

-- a pool may have so many texts
abbrev pub most_texts : ℕ
most_texts = 65536

-- the texts of a pool: none stands twice, they are not too many, and the first is the empty one
pub record ArePooled (texts : List (List ℕ)) : Type 0 where
  pub distinct : IsTrue (are_distinct bytes_eq texts)
  pub few : length texts ≤ most_texts
  pub empty_first : slice_get texts 0 ≡ Some []

-- the texts of two numbers are equal exactly where the numbers are
abbrev pub HaveOneNumber : List (List ℕ) → Type 0
HaveOneNumber texts = (m n : ℕ) (a b : List ℕ) → slice_get texts m ≡ Some a → slice_get texts n ≡ Some b → ((a ≡ b) ↔ (m ≡ n))

-- the number of a text: its index, if it is there
abbrev pub number_of : List (List ℕ) → List ℕ → Option ℕ
number_of texts text = position (bytes_eq text) texts

-- the texts with one more: it stands last, unless it was there
abbrev pub with_text : List (List ℕ) → List ℕ → List (List ℕ)
with_text texts text = if is_some (number_of texts text) then texts else texts ++ text ∷ []
