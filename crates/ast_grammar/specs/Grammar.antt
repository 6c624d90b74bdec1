-- An abstract grammar: a list of classes, which go by their numbers in it.
use Rattle.std.specs.Prelude.{◌≡◌, ℕ, ◌<◌, ◌≤◌, ◌⊎◌, List, [], Bool, true, not, ◌||◌, ◌++◌, Option, Some, None, All, map, length, position, slice_get}
use Rattle.std.specs.Option.{option_and_then, option_map}
use Rattle.std.specs.Str.{bytes_eq}
use Rattle.rag_io.specs.Distinct.{are_distinct}
use Rattle.rag_io.specs.Words.{IsWord, is_one_of, is_reserved}
use Rattle.superclasses.specs.Superclasses.{AreWithin, IsAbove, is_sub as is_below, superclass_of as above_of}
use Rattle.ast_rules.specs.Naming.{kept_words}
use Rattle.ast_grammar.specs.declared.grammar.ClassId.{ClassId}
use Rattle.ast_grammar.specs.declared.grammar.Shape.{Shape}
use Rattle.ast_grammar.specs.declared.grammar.Shape.TheVariants as shapes
use Rattle.ast_grammar.specs.declared.grammar.Component as kept_component

-- a component of a class: its name, the number of the name, its shape, and the class of a child
pub record Component : Type 0 where
  pub name : List ℕ
  pub number : ℕ
  pub shape : Shape
  pub class : ClassId

-- a class by its superclass and its components, those of the superclass first
pub record Class : Type 0 where
  pub name : List ℕ
  pub abstract : Bool
  pub superclass : Option ClassId
  pub components : List Component

-- a grammar has at most so many classes
abbrev pub most_classes : ℕ
most_classes = 256

-- a class has at most so many components, with those of its superclass
abbrev pub most_components : ℕ
most_components = 16

abbrev pub number_of : ClassId → ℕ
number_of c = c.0

abbrev pub name_of_class : Class → List ℕ
name_of_class c = c.name

abbrev pub name_of_component : Component → List ℕ
name_of_component p = p.name

-- a component without its name
abbrev pub nameless : Component → kept_component.Component
nameless p = record { name = p.number; shape = p.shape; class = p.class }

abbrev pub abstract_in : Class → Bool
abstract_in c = c.abstract

abbrev pub superclass_in : Class → Option ClassId
superclass_in c = c.superclass

-- the superclass of the class of this number
abbrev pub superclass_of : List Class → ℕ → Option ClassId
superclass_of g c = option_and_then superclass_in (slice_get g c)

-- the number of each class's superclass
unfoldable pub superclasses_of : List Class → List (Option ℕ)
superclasses_of g = map (λ (c : Class). option_map number_of c.superclass) g

-- the first class is the second or a subclass of it
abbrev pub is_sub : List Class → ℕ → ℕ → Bool
is_sub g a b = is_below (superclasses_of g) a b

-- the closure of "has the superclass"
abbrev pub IsSubclass : List Class → ℕ → ℕ → Type 0
IsSubclass g a b = (a ≡ b) ⊎ IsAbove (superclasses_of g) a b

abbrev pub components_in : Option Class → List Component
components_in None = []
components_in (Some c) = c.components

-- the components of the class of this number: its superclass's, then its own
abbrev pub components_of : List Class → ℕ → List Component
components_of g c = components_in (slice_get g c)

-- a component by its place in the class of this number
abbrev pub component_at : List Class → ℕ → ℕ → Option Component
component_at g c k = slice_get (components_of g c) k

-- the place of the component of this name in the class of this number
abbrev pub component_named : List Class → ℕ → List ℕ → Option ℕ
component_named g c name = position (λ p. bytes_eq p.name name) (components_of g c)

-- the class of this name
abbrev pub class_named : List Class → List ℕ → Option ℕ
class_named g name = position (λ c. bytes_eq c.name name) g

-- a word that may name a class or a component
abbrev pub may_name : List ℕ → Bool
may_name text = not (is_reserved text || is_one_of kept_words text)

-- among so many classes, a child, a list and an optional are of one of them, and a token is of none
abbrev pub HasShape : ℕ → Shape → ClassId → Type 0
HasShape classes shapes.Child class = class.0 < classes
HasShape classes shapes.List class = class.0 < classes
HasShape classes shapes.Optional class = class.0 < classes
HasShape classes shapes.Text class = class.0 ≡ 0
HasShape classes shapes.Int class = class.0 ≡ 0
HasShape classes shapes.Truth class = class.0 ≡ 0

-- A component of a class, among so many classes.
pub record IsComponent (classes : ℕ) (p : Component) : Type 0 where
  pub named : may_name p.name ≡ true
  pub shaped : HasShape classes p.shape p.class

-- A class of a grammar of so many classes. Its name can be written and read again.
pub record IsClass (classes : ℕ) (c : Class) : Type 0 where
  pub spelled : IsWord c.name
  pub named : may_name c.name ≡ true
  pub short : length c.components ≤ most_components
  pub distinct : are_distinct bytes_eq (map name_of_component c.components) ≡ true
  pub components : All (IsComponent classes) c.components

-- Some components and then others.
pub record Begins (all first : List Component) : Type 0 where
  pub rest : List Component
  pub are : all ≡ first ++ rest

-- What holds of each grammar: it has few classes of different names; no class is its own superclass, directly or through others; and the
-- components of a class begin with those of its superclass.
pub record IsGrammar (g : List Class) : Type 0 where
  pub some : 0 < length g
  pub few : length g ≤ most_classes
  pub distinct : are_distinct bytes_eq (map name_of_class g) ≡ true
  pub classes : All (IsClass (length g)) g
  pub within : AreWithin (superclasses_of g)
  pub acyclic : (a : ℕ) → IsAbove (superclasses_of g) a a → ⊥
  pub inherits : (a b : ℕ) → above_of (superclasses_of g) a ≡ Some b → Begins (components_of g a) (components_of g b)
