-- Classes that are named.
use Rattle.std.proofs.Common.{◌≡◌, ◌<◌, ℕ, List, [], Some, is_none, length}
use Rattle.std.specs.Str.{bytes_eq}
use Rattle.std.proofs.lemmas.Option.{slice_get_within}
use Rattle.broken_rules.specs.Notes.{at}
use Rattle.broken_rules.specs.declared.rule.Rule.TheVariants.{J2}
use Rattle.broken_rules.proofs.Clean.{not_broken}
use Rattle.ast_grammar.specs.Grammar.{Class as ClassOf, class_named}
use Rattle.aspect_items.specs.Expressions.{Name}
use Rattle.attr_scope.specs.Classes.{class_broken}
use Rattle.attr_scope.proofs.ItemsFound.{position_found, some_there}

-- a class is named, where the name is that of one
pub class_there : (g : List ClassOf) (n : Name) → class_broken g n ≡ [] → (c : ℕ) × (class_named g n.text ≡ Some c)
class_there g n none = some_there (class_named g n.text) (not_broken (is_none (class_named g n.text)) (at n.place J2) none)

-- which is one of the classes
pub class_within : (g : List ClassOf) (name : List ℕ) (c : ℕ) → class_named g name ≡ Some c → c < length g
class_within g name c e = let found = position_found (λ (d : ClassOf). bytes_eq d.name name) g c e in slice_get_within g c found.0 found.1
