-- What is shown and stays shown.
use Rattle.std.proofs.Common.{ℕ, List, [], ◌∷◌}
use Rattle.tree_arena.specs.Terms.{Forest}
use Rattle.tree_writer.specs.Parts.{AreShown}

abbrev pub Shown : Type 1
Shown = ℕ → Forest → Type 0

-- what one shows the other shows too
abbrev pub IsStill : Shown → Shown → Type 0
IsStill shows later = (n : ℕ) (tree : Forest) → shows n tree → later n tree

-- some codes show later what they showed
pub shown_still : {shows later : Shown} → IsStill shows later → (ms : List ℕ) (trees : List Forest) → AreShown shows ms trees → AreShown later ms trees
shown_still still [] [] h = tt
shown_still still [] (tree ∷ trees) h = h
shown_still still (m ∷ ms) [] h = h
shown_still still (m ∷ ms) (tree ∷ trees) h = (still m tree h.0, shown_still still ms trees h.1)
