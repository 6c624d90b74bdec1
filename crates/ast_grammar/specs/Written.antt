-- The grammar that some rules write, which break none.
use Rattle.std.specs.Prelude.{ℕ, ◌+◌, List, [], ◌∷◌, ◌++◌, Option, Some, None, codes, map, position, reverse, unwrap_or, if◌then◌else◌}
use Rattle.std.specs.List.{flat_map}
use Rattle.std.specs.Option.{option_map}
use Rattle.std.specs.Str.{bytes_eq}
use Rattle.names.specs.Among.{with_names}
use Rattle.superclasses.specs.Superclasses.{upwards}
use Rattle.ast_rules.specs.declared.written.Form.{Form}
use Rattle.ast_rules.specs.declared.written.Form.TheVariants as forms
use Rattle.ast_rules.specs.Members.{components_at, names_of_components}
use Rattle.ast_rules.specs.Naming.{names_of, type_of}
use Rattle.ast_rules.specs.Superclasses.{superclass_number, superclass_numbers}
use Rattle.ast_rules.specs.Written.{Name, WrittenComponent, WrittenRule}
use Rattle.ast_grammar.specs.declared.grammar.ClassId.{ClassId}
use Rattle.ast_grammar.specs.declared.grammar.Shape.{Shape}
use Rattle.ast_grammar.specs.declared.grammar.Shape.TheVariants as shapes
use Rattle.ast_grammar.specs.Grammar.{Class, Component}

-- the names of a grammar: the empty one, those of the classes, and those of the components, each once
abbrev pub name_table : List WrittenRule → List (List ℕ)
name_table rules = with_names ([] ∷ []) (names_of rules ++ flat_map (λ (r : WrittenRule). names_of_components r.components) rules)

-- the number of a name in the table
abbrev pub name_number : List WrittenRule → List ℕ → ℕ
name_number rules name = unwrap_or (position (bytes_eq name) (name_table rules)) 0

-- a token without a type is a `String`
abbrev pub token_shape : Option Name → Shape
token_shape None = shapes.Text
token_shape (Some type) =
    if bytes_eq type.text (codes "int") then shapes.Int else if bytes_eq type.text (codes "boolean") then shapes.Truth else shapes.Text

abbrev pub shape_of : Form → Option Name → Shape
shape_of forms.Child type = shapes.Child
shape_of forms.List type = shapes.List
shape_of forms.Optional type = shapes.Optional
shape_of forms.Token type = token_shape type

abbrev pub class_numbered : Option ℕ → ClassId
class_numbered k = record { 0 = unwrap_or k 0 }

-- the class of this name
abbrev pub class_called : List WrittenRule → List ℕ → ClassId
class_called rules name = class_numbered (position (bytes_eq name) (names_of rules))

-- the class of a child, list or optional, by its type; a token has number 0, which says nothing
abbrev pub class_for : List WrittenRule → Form → WrittenComponent → ClassId
class_for rules forms.Child c = class_called rules (type_of c).text
class_for rules forms.List c = class_called rules (type_of c).text
class_for rules forms.Optional c = class_called rules (type_of c).text
class_for rules forms.Token c = record { 0 = 0 }

abbrev pub component_written : List WrittenRule → WrittenComponent → Component
component_written rules c =
    record { name = c.name.text; number = name_number rules c.name.text; shape = shape_of c.form c.type_name; class = class_for rules c.form c }

-- what is written as the components of a class and of its superclasses, the farthest first
abbrev pub inherited_first : List WrittenRule → ℕ → List WrittenComponent
inherited_first rules i = flat_map (components_at rules) (reverse (upwards (superclass_numbers (names_of rules) rules) i))

abbrev pub class_id : ℕ → ClassId
class_id k = record { 0 = k }

-- the class of this number, by its rule
abbrev pub class_written : List WrittenRule → ℕ → WrittenRule → Class
class_written rules i rule = record {
  name = rule.name.text;
  abstract = rule.abstract;
  superclass = option_map class_id (superclass_number (names_of rules) rule);
  components = map (component_written rules) (inherited_first rules i);
}

-- the classes of rules, which are numbered from i on, among all rules
abbrev pub classes_from : List WrittenRule → ℕ → List WrittenRule → List Class
classes_from rules i [] = []
classes_from rules i (rule ∷ rest) = class_written rules i rule ∷ classes_from rules (i + 1) rest

-- the grammar of some rules: classes are numbered in their order
abbrev pub grammar_written : List WrittenRule → List Class
grammar_written rules = classes_from rules 0 rules
