-- Scopes that the checker makes.
use Rattle.std.specs.Prelude.{◌≡◌}
use Rattle.ast_grammar.specs.Grammar.{superclasses_of}
use Rattle.attr_scope.specs.Scope.{Scope}

-- the attributes are those of classes of the grammar
pub record IsScope (s : Scope) : Type 0 where
  pub superclasses : s.known.superclasses ≡ superclasses_of s.grammar
