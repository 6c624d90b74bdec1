-- What may be named where an expression stands, and what a call means there.
use Rattle.std.specs.Prelude.{ℕ, ◌==◌, nat_lt, List, [], ◌∷◌, Bool, true, false, Option, Some, None, length, position, slice_get, if◌then◌else◌}
use Rattle.std.specs.Option.{option_and_then, option_map}
use Rattle.std.specs.Str.{bytes_eq}
use Rattle.ast_grammar.specs.declared.grammar.ClassId.{ClassId}
use Rattle.ast_grammar.specs.Grammar.{Class}
use Rattle.attr_rules.specs.declared.accessors.Access.{Access}
use Rattle.attr_rules.specs.declared.accessors.Access.TheVariants as access
use Rattle.attr_rules.specs.declared.accessors.Accessor.{Accessor}
use Rattle.attr_rules.specs.declared.kinds.Attr.{Attr}
use Rattle.attr_rules.specs.declared.kinds.Kind.{Kind}
use Rattle.attr_rules.specs.declared.types.ValueType.{ValueType}
use Rattle.attr_rules.specs.declared.types.ValueType.TheVariants as types
use Rattle.attr_rules.specs.Accessors.{accessor_of, arguments_of, type_read}
use Rattle.attr_rules.specs.Rules.{AttributeSet, attribute_named, declared_at}
use Rattle.attr_rules.specs.Types.{class_in, parameter_kinds}
use Rattle.attr_scope.specs.declared.scope.Member.{Member}
use Rattle.attr_scope.specs.declared.scope.Member.TheVariants as members

-- a name that stands for a value, and the type of its values, where that is known
pub record Variable : Type 0 where
  pub name : List ℕ
  pub type : Option ValueType

-- where an expression stands: in an equation of a class, with some names, the innermost first
pub record Scope : Type 0 where
  pub grammar : List Class
  pub known : AttributeSet
  pub this : ClassId
  pub variables : List Variable

-- with one name more
abbrev pub with_variable : Scope → Variable → Scope
with_variable s v = record { grammar = s.grammar; known = s.known; this = s.this; variables = v ∷ s.variables }

abbrev pub is_named : List ℕ → Variable → Bool
is_named name v = bytes_eq v.name name

-- the number of a name: that of the innermost one
abbrev pub variable_named : Scope → List ℕ → Option ℕ
variable_named s name = position (is_named name) s.variables

abbrev pub variable_type : Variable → Option ValueType
variable_type v = v.type

-- the type of a name's values
abbrev pub type_named : Scope → List ℕ → Option ValueType
type_named s name = option_and_then variable_type (option_and_then (slice_get s.variables) (variable_named s name))

abbrev pub calls : ℕ → Member
calls a = members.Calls (record { 0 = a })

-- an accessor, or else an attribute
abbrev pub either_member : Option Accessor → Option ℕ → Option Member
either_member None a = option_map calls a
either_member (Some x) a = Some (members.Reads x)

-- the attribute that a class of the grammar has by a name
abbrev pub attribute_in : Scope → List ℕ → ClassId → Option ℕ
attribute_in s name c = if nat_lt c.0 (length s.grammar) then attribute_named s.known.superclasses s.known.attributes c name else None

-- what a name means behind a receiver of a class, called with so many arguments
abbrev pub member_of : Scope → List ℕ → ℕ → ClassId → Option Member
member_of s name n c = either_member (accessor_of s.grammar c.0 name n) (attribute_in s name c)

-- the same behind a receiver of a type, where that is known
abbrev pub member_on : Scope → Option ValueType → List ℕ → ℕ → Option Member
member_on s t name n = option_and_then (member_of s name n) (option_and_then class_in t)

abbrev pub kind_declared : Attr → ValueType
kind_declared d = types.Of d.kind

-- the type of a call; a list, which stands in ranges alone, has none
abbrev pub type_called : Scope → Member → Option ValueType
type_called s (members.Reads x) = type_read x.access x.class
type_called s (members.Calls a) = option_map kind_declared (declared_at s.known.attributes a.0)

-- the types of the parameters of what is declared, if it is
abbrev pub kinds_declared : Option Attr → List Kind
kinds_declared None = []
kinds_declared (Some d) = parameter_kinds d.params

-- the types of the arguments
abbrev pub arguments_wanted : Scope → Member → List Kind
arguments_wanted s (members.Reads x) = arguments_of x.access
arguments_wanted s (members.Calls a) = kinds_declared (declared_at s.known.attributes a.0)

-- those of a call with so many arguments, where it takes so many
abbrev pub wanted_for : Scope → Option Member → ℕ → List Kind
wanted_for s None n = []
wanted_for s (Some m) n = if length (arguments_wanted s m) == n then arguments_wanted s m else []

abbrev pub is_elements : Access → Bool
is_elements access.Child = false
is_elements (access.Token k) = false
is_elements access.Has = false
is_elements access.Count = false
is_elements access.Elements = true
is_elements access.Element = false

-- the call gives a whole list, which stands in ranges alone
abbrev pub is_list : Member → Bool
is_list (members.Reads x) = is_elements x.access
is_list (members.Calls a) = false

-- an accessor of a whole list
abbrev pub list_read : Accessor → Option Accessor
list_read x = if is_elements x.access then Some x else None

-- the list that a call gives, where it takes so many arguments
abbrev pub list_called : ℕ → Member → Option Accessor
list_called n (members.Reads x) = if length (arguments_of x.access) == n then list_read x else None
list_called n (members.Calls a) = None
