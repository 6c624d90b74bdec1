-- Lists in which nothing stands twice.
use Rattle.std.specs.Prelude.{List, [], ◌∷◌, Bool, true, ◌&&◌, not}
use Rattle.std.specs.List.{list_any}

-- no element is equal to a later one
abbrev pub are_distinct : {X : Type 0} → (X → X → Bool) → List X → Bool
are_distinct eq [] = true
are_distinct eq (x ∷ xs) = not (list_any (eq x) xs) && are_distinct eq xs
