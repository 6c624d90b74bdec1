-- Which items are evaluated so far: those whose values are no trees of their own.
use Rattle.std.specs.Prelude.{List, [], ◌∷◌, Bool, true, not, ◌&&◌}
use Rattle.aspect_items.specs.Items.{Item, Declared, Inherits, Equates, Collects, Contributes}

-- an item other than the declaration of a higher-order attribute
abbrev pub is_built_item : Item → Bool
is_built_item (Declared s) = not s.higher_order
is_built_item (Inherits i) = true
is_built_item (Equates e) = true
is_built_item (Collects c) = true
is_built_item (Contributes c) = true

-- all items are built
abbrev pub all_built : List Item → Bool
all_built [] = true
all_built (i ∷ items) = is_built_item i && all_built items
