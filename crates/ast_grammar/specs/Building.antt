-- What is kept of the rules of a grammar: names and classes by their numbers.
use Rattle.std.specs.Prelude.{◌≡◌, ℕ, ◌+◌, ◌≤◌, List, [], All, Some, Vec, length, map, slice_get, slice_index_or}
use Rattle.std.specs.Option.{option_map}
use Rattle.std.specs.declared.alloc.Global.{Global}
use Rattle.ast_rules.specs.Naming.{names_of}
use Rattle.ast_rules.specs.Superclasses.{superclass_number}
use Rattle.ast_rules.specs.Written.{WrittenComponent, WrittenRule}
use Rattle.ast_grammar.specs.Grammar.{most_classes, most_components, nameless}
use Rattle.ast_grammar.specs.Written.{class_id, component_written, inherited_first, name_table}
use Rattle.ast_grammar.specs.declared.grammar.Component as kept_component
use Rattle.ast_grammar.specs.declared.grammar.KeptClass.{KeptClass}

-- Few rules, with few components each.
pub record AreSmall (rules : List WrittenRule) : Type 0 where
  pub few : length rules ≤ most_classes
  pub short : All (λ (rule : WrittenRule). length rule.components ≤ most_components) rules

-- These are the names of the rules: all that stand in the grammar's table, and those of the classes.
pub record AreNames (rules : List WrittenRule) (names classes : List (List ℕ)) : Type 0 where
  pub table : names ≡ name_table rules
  pub of_classes : classes ≡ names_of rules

-- a component by the numbers of its name and its class
abbrev pub component_numbered : List WrittenRule → WrittenComponent → kept_component.Component
component_numbered rules c = nameless (component_written rules c)

-- the components that a rule itself writes
abbrev pub own_numbered : List WrittenRule → WrittenRule → List kept_component.Component
own_numbered rules rule = map (component_numbered rules) rule.components

abbrev pub items_of : Vec kept_component.Component Global → List kept_component.Component
items_of v = v.items

-- the components that the class of this number itself has
abbrev pub own_at : List (List kept_component.Component) → ℕ → List kept_component.Component
own_at own class = slice_index_or own class []

-- This is what is kept of the class of a rule, by its number among the rules.
pub record IsKeptOf (rules : List WrittenRule) (number : ℕ) (rule : WrittenRule) (c : KeptClass) : Type 0 where
  pub abstract : c.is_abstract ≡ rule.abstract
  pub name : c.name ≡ number + 1
  pub superclass : c.superclass ≡ option_map class_id (superclass_number (names_of rules) rule)
  pub components : c.components.items ≡ map (component_numbered rules) (inherited_first rules number)

-- These are kept of the classes of the rules.
pub record AreKeptOf (rules : List WrittenRule) (classes : List KeptClass) : Type 0 where
  pub count : length classes ≡ length rules
  pub each : (k : ℕ) (rule : WrittenRule) (c : KeptClass) → slice_get rules k ≡ Some rule → slice_get classes k ≡ Some c → IsKeptOf rules k rule c
