-- The classes that a search has found so far: a mark for each class, and those that are marked as a list.
use Rattle.std.specs.Prelude.{◌≡◌, ◌==◌, ◌≤◌, ℕ, List, ◌++◌, Bool, false, ◌||◌, length, slice_index_or}
use Rattle.std.specs.List.{count_by, list_any, range_with_len}
use Rattle.ast_grammar.specs.declared.grammar.ClassId.{ClassId}
use Rattle.attr_coverage.specs.declared.covering.Found.{Found}

-- the class of this number is marked
abbrev pub mark_at : List Bool → ℕ → Bool
mark_at marks c = slice_index_or marks c false

-- it is listed
abbrev pub is_listed : List ClassId → ℕ → Bool
is_listed classes c = list_any (λ (x : ClassId). x.0 == c) classes

-- the classes of the first list are those that are marked, and each is listed once
pub record AreListed (f : Found) : Type 0 where
  pub listed : (c : ℕ) → mark_at f.marks.items c ≡ is_listed f.classes.items c
  pub once : length f.classes.items ≤ count_by (mark_at f.marks.items) (range_with_len 0 (length f.marks.items))

-- more classes are found
pub record Grows (before after : Found) : Type 0 where
  pub kept : AreListed before → AreListed after
  pub long : length after.marks.items ≡ length before.marks.items
  pub more : List ClassId
  pub classes : after.classes.items ≡ before.classes.items ++ more

-- they are those that a test tells
pub record Adds (test : ℕ → Bool) (before after : Found) : Type 0 where
  pub marks : (c : ℕ) → mark_at after.marks.items c ≡ (mark_at before.marks.items c || test c)
