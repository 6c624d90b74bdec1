-- Higher-order attributes: the rule on their types, J13, and those that a class has by a name.
use Rattle.std.specs.Prelude.{ℕ, List, Bool, false, ◌&&◌, Option, Some, None, is_none, if◌then◌else◌}
use Rattle.std.specs.Option.{option_and_then}
use Rattle.broken_rules.specs.declared.broken.Broken.{Broken}
use Rattle.broken_rules.specs.declared.rule.Rule.TheVariants.{J13}
use Rattle.broken_rules.specs.Notes.{at, broken_if}
use Rattle.ast_grammar.specs.Grammar.{Class, superclasses_of}
use Rattle.attr_rules.specs.declared.kinds.Attr.{Attr}
use Rattle.attr_rules.specs.declared.kinds.Kind.{Kind}
use Rattle.attr_rules.specs.declared.kinds.Sort.{Sort}
use Rattle.attr_rules.specs.Rules.{Attribute, attribute_named, declared_at, is_higher_order}
use Rattle.attr_rules.specs.Types.{kind_class}
use Rattle.aspect_items.specs.Expressions.{Name}
use Rattle.aspect_items.specs.Items.{WrittenType}
use Rattle.attr_scope.specs.WrittenTypes.{class_numbered, type_written}

-- a type is no class, where the type is known
abbrev pub is_no_class : Option Kind → Bool
is_no_class None = false
is_no_class (Some k) = is_none (kind_class k)

-- J13 of a declaration of this sort, type and name: what a higher-order attribute makes is no node
abbrev pub created_type_broken : List Class → Sort → WrittenType → Name → List Broken
created_type_broken g s t n = broken_if (is_higher_order s && is_no_class (type_written g t)) (at n.place J13)

abbrev pub declares_higher_order : Option Attr → Bool
declares_higher_order None = false
declares_higher_order (Some d) = is_higher_order d.sort

-- a higher-order attribute
abbrev pub if_higher_order : List Attribute → ℕ → Option ℕ
if_higher_order attributes a = if declares_higher_order (declared_at attributes a) then Some a else None

-- the attribute that a class has by a name, where it is higher-order
abbrev pub created_attribute : List Class → List Attribute → List ℕ → ℕ → Option ℕ
created_attribute g attributes name c = option_and_then (if_higher_order attributes) (attribute_named (superclasses_of g) attributes (class_numbered c) name)
