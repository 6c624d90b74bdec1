-- For each class a row, which marks the classes above it.
use Rattle.std.specs.Prelude.{◌≡◌, ◌↔◌, ◌<◌, ℕ, List, Bool, false, Option, Some, None, Vec, IsTrue, length, slice_get, slice_index_or}
use Rattle.std.specs.List.{Contains}
use Rattle.std.specs.declared.alloc.Global.{Global}
use Rattle.superclasses.specs.Superclasses.{AreWithin, is_above, line_of}

-- the row marks those of the classes that stand on the line of this one
abbrev pub MarksLine : List (Option ℕ) → ℕ → List Bool → Type 0
MarksLine superclasses a row = (b : ℕ) → IsTrue (slice_index_or row b false) ↔ (b < length superclasses) × Contains (line_of superclasses a) b

abbrev pub row_marks : Option (Vec Bool Global) → ℕ → Bool
row_marks None b = false
row_marks (Some row) b = slice_index_or row.items b false

-- the row of the first class marks the second
abbrev pub rows_mark : List (Vec Bool Global) → ℕ → ℕ → Bool
rows_mark rows a b = row_marks (slice_get rows a) b

-- the rows mark what is above each class
pub record Mark (superclasses : List (Option ℕ)) (rows : List (Vec Bool Global)) : Type 0 where
  pub within : AreWithin superclasses
  pub mark : (a b : ℕ) → rows_mark rows a b ≡ is_above superclasses a b
