-- A reader of what made trees that has no value. It knows every code.
use Rattle.std.specs.Prelude.{◌≡◌}
use Rattle.equation_law.specs.Reading.{Told}
use Rattle.made_trees.specs.Makers.{AreTrees, Trees, naming_of, program_for}

abbrev pub told_by : {S : Type 0} → Trees → Told S
told_by T = record { for = λ p. (p ≡ program_for T) × AreTrees T; has = λ i v. ⊥; can = λ i v. ⊥; keeps = λ earlier. Unit {0}; names = λ n. n ≡ naming_of T; knows = λ c. Unit {0}; height = λ c. c }
