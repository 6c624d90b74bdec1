-- Components with inherited ones.
use Rattle.std.specs.Prelude.{◌≡◌, ℕ, ◌+◌, ◌-◌, ◌^◌, ◌<◌, ◌==◌, min, List, [], ◌∷◌, ◌++◌, Bool, ◌||◌, length, slice_get, map, Option, Some, None}
use Rattle.std.specs.List.{Contains, flat_map}
use Rattle.rag_io.specs.Places.{IsAhead}
use Rattle.rag_io.specs.declared.token.Place.{Place}
use Rattle.broken_rules.specs.Notes.{at, broken_if, each_after, each_from}
use Rattle.broken_rules.specs.declared.broken.Broken.{Broken}
use Rattle.broken_rules.specs.declared.rule.Rule.TheVariants.{G6, G10}
use Rattle.names.specs.Among.{is_among}
use Rattle.superclasses.specs.Superclasses.{line_of}
use Rattle.ast_rules.specs.Written.{WrittenComponent, WrittenRule}

abbrev pub names_of_components : List WrittenComponent → List (List ℕ)
names_of_components components = map (λ c. c.name.text) components

abbrev pub components_in : Option WrittenRule → List WrittenComponent
components_in None = []
components_in (Some rule) = rule.components

-- the components that the class of this number itself has
abbrev pub components_at : List WrittenRule → ℕ → List WrittenComponent
components_at rules j = components_in (slice_get rules j)

-- the names of the components of some classes
abbrev pub names_along : List WrittenRule → List ℕ → List (List ℕ)
names_along rules line = flat_map (λ j. names_of_components (components_at rules j)) line

-- the names of the components that a class inherits
abbrev pub inherited_names : List WrittenRule → List (Option ℕ) → ℕ → List (List ℕ)
inherited_names rules superclasses i = names_along rules (line_of superclasses i)

-- G6: the name stands twice among inherited and own ones. G10: it is the 17th of them
abbrev pub member_broken : (List ℕ → Bool) → ℕ → List WrittenComponent → WrittenComponent → List Broken
member_broken known count before c =
    broken_if (known c.name.text || is_among (names_of_components before) c.name.text) (at c.name.place G6)
    ++ broken_if (count + length before == 16) (at c.name.place G10)

-- G10 of the class itself: it is the 257th
abbrev pub class_broken : List WrittenRule → List (Option ℕ) → ℕ → WrittenRule → List Broken
class_broken rules superclasses i rule =
    broken_if (i == 256) (at rule.name.place G10)
    ++ each_after (member_broken (is_among (inherited_names rules superclasses i)) (length (inherited_names rules superclasses i))) [] rule.components

abbrev pub members_broken : List WrittenRule → List (Option ℕ) → List Broken
members_broken rules superclasses = each_from (class_broken rules superclasses) 0 rules

-- some names and more
pub record Adds (old more new : List (List ℕ)) : Type 0 where
  pub adds : (q : List ℕ) → is_among new q ≡ (is_among old q || is_among more q)

-- what was collected of the components of some classes
pub record Inherits (rules : List WrittenRule) (line : List ℕ) (names : List (List ℕ)) (count : ℕ) : Type 0 where
  pub known : (q : List ℕ) → is_among names q ≡ is_among (names_along rules line) q
  pub counted : count ≡ min (length (names_along rules line)) (2 ^ 64 - 1)

-- where the names of a rule's class and of its components stand
abbrev pub places_of : WrittenRule → List Place
places_of rule = rule.name.place ∷ map (λ c. c.name.place) rule.components

-- each place of the one rule stands before each of the other
abbrev pub AllAhead : WrittenRule → WrittenRule → Type 0
AllAhead rule later = (p q : Place) → Contains (places_of rule) p → Contains (places_of later) q → IsAhead p q

-- each place of a rule stands before all places of the later rules
pub record Rises (rules : List WrittenRule) : Type 0 where
  pub ahead : (i j : ℕ) (rule later : WrittenRule) → i < j → slice_get rules i ≡ Some rule → slice_get rules j ≡ Some later → AllAhead rule later
