-- The rules that each concrete class has an equation for each of its attributes, and that no inherited one can be met uncovered: J7 and J8.
use Rattle.std.specs.Prelude.{ℕ, List, [], Bool, ◌&&◌, Option, Some, None, is_none, map, if◌then◌else◌}
use Rattle.std.specs.List.{list_any}
use Rattle.std.specs.Option.{option_map}
use Rattle.rag_io.specs.declared.token.Place.{Place}
use Rattle.broken_rules.specs.declared.broken.Broken.{Broken}
use Rattle.broken_rules.specs.declared.rule.Rule.TheVariants.{J7, J8}
use Rattle.broken_rules.specs.Notes.{at, broken_if, each_from}
use Rattle.ast_grammar.specs.declared.grammar.ClassId.{ClassId}
use Rattle.ast_grammar.specs.Grammar.{Class, is_sub, superclasses_of}
use Rattle.attr_rules.specs.declared.dispatch.Target.{Target}
use Rattle.attr_rules.specs.declared.kinds.Attr.{Attr}
use Rattle.attr_rules.specs.declared.kinds.AttrId.{AttrId}
use Rattle.attr_rules.specs.Rules.{Attribute, declared_at, first_of_name, has_own_equations, is_inherited, nearest_equation, number_of_attribute}
use Rattle.attr_coverage.specs.declared.created.Created.{Created}
use Rattle.attr_coverage.specs.Covering.{is_concrete, is_covered, is_uncovered}
use Rattle.attr_coverage.specs.Created.{made_of, written_root}
use Rattle.attr_scope.specs.Classes.{class_numbers}
use Rattle.attr_scope.specs.Written.{Given, Head}

-- nodes of class c have the attribute of number a, which is declared for class d, and no equation gives it a value there
abbrev pub is_missing : List Class → List Target → ℕ → ℕ → ℕ → Bool
is_missing g targets a d c = is_concrete g c && (is_sub g c d && is_none (nearest_equation (superclasses_of g) targets c a))

-- nodes of class c have the inherited attribute, which is declared for class d, and it can be met uncovered there, by the first one of its name
-- and what the higher-order attributes make at nodes of each class
abbrev pub is_open : List Class → List Target → Option ℕ → (ℕ → List Created) → ℕ → ℕ → Bool
is_open g targets first made d c = is_concrete g c && (is_sub g c d && is_uncovered g (is_covered (superclasses_of g) targets first) made c)

-- the inherited attribute, which is declared for class d, can be met uncovered at nodes of some class
abbrev pub can_be_open : List Class → List Target → Option AttrId → (ℕ → List Created) → ClassId → Bool
can_be_open g targets first made d = list_any (is_open g targets (option_map number_of_attribute first) made d.0) (class_numbers g)

-- J7 at the name of an attribute of class d
abbrev pub missing_broken : List Class → List Target → ℕ → ℕ → Place → List Broken
missing_broken g targets a d place = broken_if (list_any (is_missing g targets a d) (class_numbers g)) (at place J7)

-- J8 at the name of an inherited attribute of class d, by the first one of its name
abbrev pub open_broken : List Class → List Target → Option ℕ → (ℕ → List Created) → ℕ → Place → List Broken
open_broken g targets first made d place = broken_if (list_any (is_open g targets first made d) (class_numbers g)) (at place J8)

-- J7 or J8 of the attribute of number a; a collection has no equations
abbrev pub lacking_of : List Class → List Attribute → List Target → (ℕ → List Created) → ℕ → Place → Attr → List Broken
lacking_of g attributes targets made a place d =
    if is_inherited d.sort then open_broken g targets (first_of_name attributes a) made d.class.0 place
    else (if has_own_equations d.sort then missing_broken g targets a d.class.0 place else [])

abbrev pub lacking_at : List Class → List Attribute → List Target → (ℕ → List Created) → ℕ → Place → Option Attr → List Broken
lacking_at g attributes targets made a place None = []
lacking_at g attributes targets made a place (Some d) = lacking_of g attributes targets made a place d

abbrev pub lacking : List Class → List Attribute → List Target → (ℕ → List Created) → ℕ → Place → List Broken
lacking g attributes targets made a place = lacking_at g attributes targets made a place (declared_at attributes a)

-- What attributes break that lack an equation, whose names in the declarations stand at these places. For each equation it counts of which class
-- the root is that it makes.
abbrev pub complete_broken : List Class → List Attribute → List Target → List (Option ℕ) → List Place → List Broken
complete_broken g attributes targets roots places = each_from (lacking g attributes targets (made_of g attributes targets roots)) 0 places

-- where the name in a declaration stands
abbrev pub place_of : Head → Place
place_of s = s.signature.name.place

abbrev pub places_of : List Head → List Place
places_of list = map place_of list

abbrev pub root_of : List Class → Given → Option ℕ
root_of g e = written_root g e.body

-- for each equation the class of the root that it makes, where it makes one
abbrev pub roots_of : List Class → List Given → List (Option ℕ)
roots_of g list = map (root_of g) list
