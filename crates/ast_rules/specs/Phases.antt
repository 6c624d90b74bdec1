-- What the rules of a grammar break, phase by phase: names; superclasses; components with inherited ones.
use Rattle.std.specs.Prelude.{ℕ, List, [], ◌∷◌, Option}
use Rattle.broken_rules.specs.declared.broken.Broken.{Broken}
use Rattle.ast_rules.specs.Members.{members_broken}
use Rattle.ast_rules.specs.Naming.{names_of, naming_broken}
use Rattle.ast_rules.specs.Superclasses.{superclass_numbers, superclasses_broken}
use Rattle.ast_rules.specs.Written.{WrittenRule}

-- the number of each class's superclass, by the classes' own names
abbrev pub superclasses_of : List WrittenRule → List (Option ℕ)
superclasses_of rules = superclass_numbers (names_of rules) rules

abbrev pub grammar_phases : List WrittenRule → List (List Broken)
grammar_phases rules = naming_broken rules ∷ superclasses_broken (superclasses_of rules) rules ∷ members_broken rules (superclasses_of rules) ∷ []
