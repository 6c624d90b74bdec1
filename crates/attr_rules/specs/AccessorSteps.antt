-- What looking for a component answers.
use Rattle.std.specs.Prelude.{◌≡◌, ℕ, List, Option, Some, None}
use Rattle.std.specs.Option.{option_map}
use Rattle.ast_grammar.specs.Grammar.{Class, component_at, component_named, nameless}
use Rattle.attr_rules.specs.declared.accessors.Found.{Found}

abbrev pub Finds : List Class → ℕ → List ℕ → Option Found → Type 0
Finds g c name None = component_named g c name ≡ None
Finds g c name (Some f) = (component_named g c name ≡ Some f.number.0) × (option_map nameless (component_at g c f.number.0) ≡ Some f.component)
