-- Superclasses, by the numbers of classes.
use Rattle.std.specs.Prelude.{ℕ, List, Option, Some, None, map, position}
use Rattle.std.specs.Str.{bytes_eq}
use Rattle.broken_rules.specs.Notes.{at, broken_if, each_from}
use Rattle.broken_rules.specs.declared.broken.Broken.{Broken}
use Rattle.broken_rules.specs.declared.rule.Rule.TheVariants.{G4}
use Rattle.superclasses.specs.Superclasses.{is_above}
use Rattle.ast_rules.specs.Written.{Name, WrittenRule}

abbrev pub number_among : List (List ℕ) → Option Name → Option ℕ
number_among names None = None
number_among names (Some name) = position (bytes_eq name.text) names

-- the number of the superclass of a rule's class
abbrev pub superclass_number : List (List ℕ) → WrittenRule → Option ℕ
superclass_number names rule = number_among names rule.superclass

abbrev pub superclass_numbers : List (List ℕ) → List WrittenRule → List (Option ℕ)
superclass_numbers names rules = map (superclass_number names) rules

-- G4: the class is its own superclass, directly or through others
abbrev pub own_broken : List (Option ℕ) → ℕ → WrittenRule → List Broken
own_broken superclasses i rule = broken_if (is_above superclasses i i) (at rule.name.place G4)

abbrev pub superclasses_broken : List (Option ℕ) → List WrittenRule → List Broken
superclasses_broken superclasses rules = each_from (own_broken superclasses) 0 rules
