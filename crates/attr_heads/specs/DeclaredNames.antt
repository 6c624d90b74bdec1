-- What is kept of the names that are declared: for each the classes that declare it.
use Rattle.std.specs.Prelude.{◌≡◌, ℕ, List, [], ◌∷◌, ◌++◌, Bool, ◌||◌, ◌&&◌, Option, Some, None, Vec, length, position, slice_get}
use Rattle.std.specs.List.{list_any}
use Rattle.std.specs.Option.{option_and_then}
use Rattle.std.specs.Str.{bytes_eq}
use Rattle.std.specs.declared.alloc.Global.{Global}
use Rattle.broken_rules.specs.declared.broken.Broken.{Broken}
use Rattle.broken_rules.specs.Notes.{Notes}
use Rattle.ast_grammar.specs.declared.grammar.ClassId.{ClassId}
use Rattle.ast_grammar.specs.Grammar.{Class, is_sub}
use Rattle.aspect_items.specs.Expressions.{Name}
use Rattle.attr_heads.specs.declared.declared.Declared.{Declared}
use Rattle.attr_heads.specs.Heads.{again_for, has_declaration, named_broken}
use Rattle.attr_scope.specs.Written.{Head}

-- one of the two classes is the other or below it
abbrev pub relates : List Class → ℕ → ClassId → Bool
relates g c d = is_sub g d.0 c || is_sub g c d.0

abbrev pub classes_in : Option (Vec ClassId Global) → List ClassId
classes_in None = []
classes_in (Some classes) = classes.items

-- the classes that declare a name
abbrev pub classes_under : List (List ℕ) → List (Vec ClassId Global) → List ℕ → List ClassId
classes_under names classes name = classes_in (option_and_then (slice_get classes) (position (bytes_eq name) names))

abbrev pub declaring : Declared → List ℕ → List ClassId
declaring d name = classes_under d.names d.classes.items name

-- a class was added to some, or is one of them
pub record AddsClass (old : List ClassId) (class : ClassId) (new : List ClassId) : Type 0 where
  pub adds : (f : ClassId → Bool) → list_any f new ≡ (list_any f old || f class)

-- each name has its classes
pub record IsEven (d : Declared) : Type 0 where
  pub long : length d.classes.items ≡ length d.names

-- a class was added to those that declare a name
pub record Adds (old : Declared) (class : ClassId) (name : List ℕ) (new : Declared) : Type 0 where
  pub adds : (f : ClassId → Bool) (q : List ℕ) → list_any f (declaring new q) ≡ (list_any f (declaring old q) || (bytes_eq q name && f class))

-- what is kept tells which names the declarations declare
pub record Tells (g : List Class) (list : List Head) (d : Declared) : Type 0 where
  pub even : IsEven d
  pub tells : (c : ℕ) (name : List ℕ) → list_any (relates g c) (declaring d name) ≡ has_declaration g c name list

-- J3 of a declaration of a name for a class was noted, whatever was declared before
abbrev pub NotesAgain : List Class → Declared → ClassId → Name → Option Broken → Option Broken → Type 0
NotesAgain g kept class n old new = (before : List Head) → Tells g before kept → Notes (again_for g before n (Some class.0)) old new

-- the class was added to those that declare the name, whatever was declared before
abbrev pub KeepsClass : List Class → Declared → ClassId → List ℕ → Declared → Type 0
KeepsClass g old class name new = (before : List Head) → Tells g before old → IsEven new × Adds old class name new

-- J2, J3, J4 and J17 of a declaration were noted, whatever so many declarations are before it
abbrev pub NotesNamed : List Class → Declared → ℕ → Head → Option Broken → Option Broken → Type 0
NotesNamed g kept count h old new = (before : List Head) → Tells g before kept → count ≡ length before → Notes (named_broken g before h) old new

-- what is kept tells of this declaration too, whatever was declared before
abbrev pub TellsMore : List Class → Declared → Head → Declared → Type 0
TellsMore g old h new = (before : List Head) → Tells g before old → Tells g (before ++ h ∷ []) new
