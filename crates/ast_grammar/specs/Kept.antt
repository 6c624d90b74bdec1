-- A grammar in memory, as clauses see it.
use Rattle.std.specs.Prelude.{◌≡◌, ℕ, ◌+◌, ◌<◌, List, [], Option, Some, All, length, map, slice_get, slice_index_or}
use Rattle.rag_io.specs.Pool.{ArePooled}
use Rattle.ast_grammar.specs.Grammar.{Class, Component, IsGrammar, superclasses_of}
use Rattle.ast_grammar.specs.declared.grammar.Component as kept_component
use Rattle.ast_grammar.specs.declared.grammar.KeptClass.{KeptClass}

-- the name of this number
abbrev pub name_in : List (List ℕ) → ℕ → List ℕ
name_in names number = slice_index_or names number []

abbrev pub component_of : List (List ℕ) → kept_component.Component → Component
component_of names p = record { name = name_in names p.name; number = p.name; shape = p.shape; class = p.class }

abbrev pub class_of : List (List ℕ) → KeptClass → Class
class_of names c = record { name = name_in names c.name; abstract = c.is_abstract; superclass = c.superclass; components = map (component_of names) c.components.items }

abbrev pub grammar_of : List (List ℕ) → List KeptClass → List Class
grammar_of names classes = map (class_of names) classes

-- The components have names of their numbers.
pub record AreNamed (names : List (List ℕ)) (c : KeptClass) : Type 0 where
  pub named : All (λ p. p.name < length names) c.components.items

-- These classes are kept with these names and superclasses: behind the empty name stand those of the classes, in their order.
pub record IsKept (names : List (List ℕ)) (superclasses : List (Option ℕ)) (classes : List KeptClass) : Type 0 where
  pub allowed : IsGrammar (grammar_of names classes)
  pub pooled : ArePooled names
  pub names_of_classes : length classes < length names
  pub numbered : (k : ℕ) (c : KeptClass) → slice_get classes k ≡ Some c → c.name ≡ k + 1
  pub components : All (AreNamed names) classes
  pub superclasses_are : superclasses ≡ superclasses_of (grammar_of names classes)
