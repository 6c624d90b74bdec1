-- Collections, and the rules on their declarations: J2 and J13.
use Rattle.std.specs.Prelude.{ℕ, ◌==◌, List, [], ◌++◌, Bool, false, not, ◌&&◌, Option, Some, None, codes, if◌then◌else◌}
use Rattle.std.specs.Option.{option_and_then, option_map, unwrap_or}
use Rattle.std.specs.Str.{bytes_eq}
use Rattle.broken_rules.specs.declared.broken.Broken.{Broken}
use Rattle.broken_rules.specs.declared.rule.Rule.TheVariants.{J13}
use Rattle.broken_rules.specs.Notes.{at, broken_if}
use Rattle.ast_grammar.specs.declared.grammar.ClassId.{ClassId}
use Rattle.ast_grammar.specs.Grammar.{Class, class_named}
use Rattle.attr_rules.specs.declared.kinds.Collecting.{Collecting}
use Rattle.attr_rules.specs.declared.kinds.Kind.{Kind}
use Rattle.attr_rules.specs.declared.kinds.Method.{Method}
use Rattle.attr_rules.specs.declared.kinds.Method.TheVariants as methods
use Rattle.attr_rules.specs.Rules.{is_single}
use Rattle.attr_rules.specs.Types.{int_kind, truth_kind}
use Rattle.aspect_items.specs.Expressions.{Expr, Int, Name, Truth}
use Rattle.aspect_items.specs.Items.{Collection, WrittenType}
use Rattle.attr_scope.specs.Classes.{class_broken}
use Rattle.attr_scope.specs.WrittenTypes.{class_numbered, type_written}
use Rattle.attr_heads.specs.Starts.{is_empty, is_false}

-- the literal `true`, and a literal of the value 0: neither in parentheses
abbrev pub is_true : Expr → Bool
is_true (Truth p b) = b
is_true e = false

abbrev pub is_zero : Expr → Bool
is_zero (Int p n) = n == 0
is_zero e = false

-- the method of a name
abbrev pub method_named : List ℕ → Option Method
method_named name =
    if bytes_eq name (codes "add") then Some methods.Add
    else (if bytes_eq name (codes "addAll") then Some methods.AddAll
    else (if bytes_eq name (codes "sum") then Some methods.Sum
    else (if bytes_eq name (codes "or") then Some methods.Or
    else (if bytes_eq name (codes "and") then Some methods.And else None))))

-- the method that is written; where none is, it is `add`
abbrev pub method_written : Option Name → Option Method
method_written None = Some methods.Add
method_written (Some n) = method_named n.text

-- The type, the fresh value and the method of a collection go together: `add` and `addAll` make sets and begin with `empty`, `sum` an integer with `0`,
-- `or` and `and` a truth value with `false` and `true`.
abbrev pub is_row : Kind → Expr → Method → Bool
is_row k fresh methods.Add = not (is_single k) && is_empty fresh
is_row k fresh methods.AddAll = not (is_single k) && is_empty fresh
is_row k fresh methods.Sum = int_kind k && is_zero fresh
is_row k fresh methods.Or = truth_kind k && is_false fresh
is_row k fresh methods.And = truth_kind k && is_true fresh

-- the name behind `with` is that of a method, and they go together
abbrev pub is_row_by : Kind → Expr → Option Method → Bool
is_row_by k fresh None = false
is_row_by k fresh (Some m) = is_row k fresh m

-- they don't, where the type is known
abbrev pub has_no_row : Option Kind → Collection → Bool
has_no_row None c = false
has_no_row (Some k) c = not (is_row_by k c.fresh (method_written c.method))

-- J2: the name behind `root` is that of no class
abbrev pub root_broken : List Class → Option Name → List Broken
root_broken g None = []
root_broken g (Some n) = class_broken g n

-- J13 at the name of a collection, and J2 at its root class
abbrev pub collection_broken : List Class → WrittenType → Option Collection → List Broken
collection_broken g t None = []
collection_broken g t (Some c) = broken_if (has_no_row (type_written g t) c) (at c.name.place J13) ++ root_broken g c.root

abbrev pub class_of_name : List Class → Name → Option ClassId
class_of_name g n = option_map class_numbered (class_named g n.text)

-- how a collection collects; what is no method counts as `add`
abbrev pub collects_as : List Class → Collection → Collecting
collects_as g c = record { method = unwrap_or (method_written c.method) methods.Add; root = option_and_then (class_of_name g) c.root }

abbrev pub collecting_declared : List Class → Option Collection → Option Collecting
collecting_declared g c = option_map (collects_as g) c
