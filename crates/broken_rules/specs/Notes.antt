-- Lists of the rules that an input breaks, and what noting them does.
use Rattle.std.specs.Prelude.{◌≡◌, ℕ, ◌+◌, List, [], ◌∷◌, ◌++◌, Bool, true, false, Option}
use Rattle.rag_io.specs.declared.token.Place.{Place}
use Rattle.broken_rules.specs.declared.broken.Broken.{Broken}
use Rattle.broken_rules.specs.declared.rule.Rule.{Rule}
use Rattle.broken_rules.specs.Order.{sooner, first_of}

abbrev pub at : Place → Rule → Broken
at place rule = record { place = place; rule = rule }

-- what one rule breaks at one place
abbrev pub broken_if : Bool → Broken → List Broken
broken_if true b = b ∷ []
broken_if false b = []

-- what each item breaks, which depends on the items before it too; where it doesn't, `flat_map` serves
abbrev pub each_after : {X : Type 0} → (List X → X → List Broken) → List X → List X → List Broken
each_after f before [] = []
each_after f before (x ∷ xs) = f before x ++ each_after f (before ++ x ∷ []) xs

-- what each item breaks, which depends on its index too
abbrev pub each_from : {X : Type 0} → (ℕ → X → List Broken) → ℕ → List X → List Broken
each_from f i [] = []
each_from f i (x ∷ xs) = f i x ++ each_from f (i + 1) xs

-- the list was noted
pub record Notes (bs : List Broken) (old new : Option Broken) : Type 0 where
  pub is : new ≡ sooner old (first_of bs)
