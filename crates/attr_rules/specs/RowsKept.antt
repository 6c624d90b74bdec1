-- Rows, with a place for each of some numbers.
use Rattle.std.specs.Prelude.{ℕ, zero, suc, List, [], ◌∷◌, Option, Some, None, Vec, slice_get}
use Rattle.std.specs.Option.{option_and_then, option_or}
use Rattle.std.specs.declared.alloc.Global.{Global}

module _ {X : Type 0} where
  -- a row with an item at a place, where there is none yet
  abbrev pub with_first : List (Option X) → ℕ → X → List (Option X)
  with_first [] n x = []
  with_first (y ∷ row) zero x = option_or y (Some x) ∷ row
  with_first (y ∷ row) (suc n) x = y ∷ with_first row n x

  -- what stands at a place of a row
  abbrev pub at_place : List (Option X) → ℕ → Option X
  at_place row n = option_and_then (λ x. x) (slice_get row n)

  -- what stands at a place of one of some rows
  abbrev pub in_row : Option (Vec (Option X) Global) → ℕ → Option X
  in_row None n = None
  in_row (Some row) n = at_place row.items n

  abbrev pub at_row : List (Vec (Option X) Global) → ℕ → ℕ → Option X
  at_row rows k n = in_row (slice_get rows k) n
