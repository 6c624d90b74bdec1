-- Types as they are written.
use Rattle.std.specs.Prelude.{ℕ, ◌==◌, List, Bool, true, false, Option, Some, None, if◌then◌else◌}
use Rattle.std.specs.Option.{option_map, unwrap_or}
use Rattle.ast_grammar.specs.declared.grammar.ClassId.{ClassId}
use Rattle.ast_grammar.specs.Grammar.{Class, class_named}
use Rattle.attr_rules.specs.declared.kinds.Kind.{Kind}
use Rattle.attr_rules.specs.declared.kinds.Kind.TheVariants as kinds
use Rattle.aspect_items.specs.Items.{TypeName, Boolean, Integer, String, Class as Named, WrittenType}

-- the class of a number
abbrev pub class_numbered : ℕ → ClassId
class_numbered c = record { 0 = c }

abbrev pub node_kind : ℕ → Kind
node_kind c = kinds.Node (class_numbered c)

abbrev pub nodes_kind : ℕ → Kind
nodes_kind c = kinds.Nodes (class_numbered c)

-- the type that a name means, if it means one
abbrev pub single_named : List Class → TypeName → Option Kind
single_named g Boolean = Some kinds.Truth
single_named g Integer = Some kinds.Int
single_named g String = Some kinds.Text
single_named g (Named name) = option_map node_kind (class_named g name)

-- the type of the sets whose elements a name means: these are texts, or nodes of a class
abbrev pub set_named : List Class → TypeName → Option Kind
set_named g Boolean = None
set_named g Integer = None
set_named g String = Some kinds.Texts
set_named g (Named name) = option_map nodes_kind (class_named g name)

abbrev pub type_written : List Class → WrittenType → Option Kind
type_written g t = if t.set then set_named g t.name else single_named g t.name

-- what is no type counts as `boolean`
abbrev pub kind_written : List Class → WrittenType → Kind
kind_written g t = unwrap_or (type_written g t) kinds.Truth

-- two types are one
abbrev pub equal_kinds : Kind → Kind → Bool
equal_kinds kinds.Truth kinds.Truth = true
equal_kinds kinds.Int kinds.Int = true
equal_kinds kinds.Text kinds.Text = true
equal_kinds (kinds.Node c) (kinds.Node d) = c.0 == d.0
equal_kinds kinds.Texts kinds.Texts = true
equal_kinds (kinds.Nodes c) (kinds.Nodes d) = c.0 == d.0
equal_kinds k l = false

-- two types are one, as far as both are known
abbrev pub same_kind : Option Kind → Option Kind → Bool
same_kind None l = true
same_kind (Some k) None = true
same_kind (Some k) (Some l) = equal_kinds k l
