-- Accessors: the names by which the components of a class are read.
use Rattle.std.specs.Prelude.{ℕ, ◌-◌, ◌==◌, List, [], ◌∷◌, Bool, true, false, Option, Some, None, codes, drop, take, length, if◌then◌else◌}
use Rattle.std.specs.Option.{option_and_then, option_map, option_or}
use Rattle.std.specs.Str.{bytes_eq}
use Rattle.ast_grammar.specs.declared.grammar.ClassId.{ClassId}
use Rattle.ast_grammar.specs.declared.grammar.Shape.{Shape}
use Rattle.ast_grammar.specs.declared.grammar.Shape.TheVariants as shapes
use Rattle.ast_grammar.specs.Grammar.{Class, Component, component_at, component_named}
use Rattle.attr_rules.specs.declared.kinds.Kind.{Kind}
use Rattle.attr_rules.specs.declared.kinds.Kind.TheVariants as kinds
use Rattle.attr_rules.specs.declared.types.ValueType.{ValueType}
use Rattle.attr_rules.specs.declared.types.ValueType.TheVariants as types
use Rattle.attr_rules.specs.declared.accessors.Access.{Access}
use Rattle.attr_rules.specs.declared.accessors.Access.TheVariants as access
use Rattle.attr_rules.specs.declared.accessors.Accessor.{Accessor}
use Rattle.attr_rules.specs.Types.{of_class}

-- the rest of a text behind a front, where it begins with it
abbrev pub behind : List ℕ → List ℕ → Option (List ℕ)
behind front text = if bytes_eq (take (length front) text) front then Some (drop (length front) text) else None

-- the rest of a text before a back, where it ends with it
abbrev pub before : List ℕ → List ℕ → Option (List ℕ)
before back text = if bytes_eq (drop (length text - length back) text) back then Some (take (length text - length back) text) else None

-- what `getX()` reads of a component X of this shape
abbrev pub got : Shape → Option Access
got shapes.Child = Some access.Child
got shapes.List = None
got shapes.Optional = Some access.Child
got shapes.Text = Some (access.Token kinds.Text)
got shapes.Int = Some (access.Token kinds.Int)
got shapes.Truth = Some (access.Token kinds.Truth)

-- what an accessor of optional children, or of lists, reads of a component of this shape
abbrev pub of_optional : Access → Shape → Option Access
of_optional a shapes.Child = None
of_optional a shapes.List = None
of_optional a shapes.Optional = Some a
of_optional a shapes.Text = None
of_optional a shapes.Int = None
of_optional a shapes.Truth = None

abbrev pub of_list : Access → Shape → Option Access
of_list a shapes.Child = None
of_list a shapes.List = Some a
of_list a shapes.Optional = None
of_list a shapes.Text = None
of_list a shapes.Int = None
of_list a shapes.Truth = None

abbrev pub reading : ℕ → ClassId → Access → Accessor
reading k c a = record { component = record { 0 = k }; class = c; access = a }

abbrev pub accessor_on : (Shape → Option Access) → ℕ → Component → Option Accessor
accessor_on f k x = option_map (reading k x.class) (f x.shape)

-- the accessor of the component of this number, or of this name
abbrev pub accessor_at : (Shape → Option Access) → List Class → ℕ → ℕ → Option Accessor
accessor_at f g c k = option_and_then (accessor_on f k) (component_at g c k)

abbrev pub accessor_named : (Shape → Option Access) → List Class → ℕ → List ℕ → Option Accessor
accessor_named f g c x = option_and_then (accessor_at f g c) (component_named g c x)

-- `getX()` of a child, an optional child or a token X
abbrev pub getting : List Class → ℕ → List ℕ → Option Accessor
getting g c name = option_and_then (accessor_named got g c) (behind (codes "get") name)

-- `hasX()` of an optional child X
abbrev pub having : List Class → ℕ → List ℕ → Option Accessor
having g c name = option_and_then (accessor_named (of_optional access.Has) g c) (behind (codes "has") name)

-- `getNumX()` of a list X
abbrev pub counting : List Class → ℕ → List ℕ → Option Accessor
counting g c name = option_and_then (accessor_named (of_list access.Count) g c) (behind (codes "getNum") name)

-- `getXList()` of a list X
abbrev pub listing : List Class → ℕ → List ℕ → Option Accessor
listing g c name = option_and_then (λ x. option_and_then (accessor_named (of_list access.Elements) g c) (before (codes "List") x)) (behind (codes "get") name)

-- `getX(int)` of a list X
abbrev pub indexing : List Class → ℕ → List ℕ → Option Accessor
indexing g c name = option_and_then (accessor_named (of_list access.Element) g c) (behind (codes "get") name)

-- the types of an accessor's arguments
abbrev pub arguments_of : Access → List Kind
arguments_of access.Child = []
arguments_of (access.Token k) = []
arguments_of access.Has = []
arguments_of access.Count = []
arguments_of access.Elements = []
arguments_of access.Element = kinds.Int ∷ []

-- it is one that takes so many arguments
abbrev pub takes : ℕ → Option Accessor → Option Accessor
takes n None = None
takes n (Some a) = if length (arguments_of a.access) == n then Some a else None

-- the accessors of a class that a name spells, in their order: the first that takes so many arguments, and the first of all
abbrev pub fitting : List Class → ℕ → List ℕ → ℕ → Option Accessor
fitting g c name n =
    option_or (option_or (option_or (option_or (takes n (getting g c name)) (takes n (having g c name))) (takes n (counting g c name))) (takes n (listing g c name)))
    (takes n (indexing g c name))

abbrev pub any_accessor : List Class → ℕ → List ℕ → Option Accessor
any_accessor g c name = option_or (option_or (option_or (option_or (getting g c name) (having g c name)) (counting g c name)) (listing g c name)) (indexing g c name)

-- The accessor of a class that a name spells, called with so many arguments. Where there are several, those come first that take so many.
abbrev pub accessor_of : List Class → ℕ → List ℕ → ℕ → Option Accessor
accessor_of g c name n = option_or (fitting g c name n) (any_accessor g c name)

abbrev pub is_there : Option Accessor → Bool
is_there None = false
is_there (Some a) = true

-- the name is that of an accessor of the class
abbrev pub is_spelled : List Class → ℕ → List ℕ → Bool
is_spelled g c name = is_there (accessor_of g c name 0)

-- the type of what an accessor reads; the elements of a list have none, and stand in ranges alone
abbrev pub type_read : Access → ClassId → Option ValueType
type_read access.Child c = Some (of_class c)
type_read (access.Token k) c = Some (types.Of k)
type_read access.Has c = Some (types.Of kinds.Truth)
type_read access.Count c = Some (types.Of kinds.Int)
type_read access.Elements c = None
type_read access.Element c = Some (of_class c)
