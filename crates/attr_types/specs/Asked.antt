-- Queries of one call.
use Rattle.std.specs.Prelude.{ℕ, ◌==◌, List, [], Option, Some, None, length, if◌then◌else◌}
use Rattle.std.specs.Option.{option_and_then, option_map}
use Rattle.rag_io.specs.declared.token.Place.{Place}
use Rattle.ast_grammar.specs.declared.grammar.ClassId.{ClassId}
use Rattle.ast_grammar.specs.Grammar.{Class}
use Rattle.attr_rules.specs.declared.types.ValueType.{ValueType}
use Rattle.attr_rules.specs.Expression as said
use Rattle.attr_rules.specs.Queries.{Query}
use Rattle.attr_rules.specs.Rules.{RuleSet}
use Rattle.attr_rules.specs.Types.{kept_kind}
use Rattle.attr_scope.specs.declared.scope.Member.{Member}
use Rattle.attr_scope.specs.Scope.{Scope, arguments_wanted, member_of, type_called}
use Rattle.expr_typing.specs.Typed.{call_said}

-- what may be named at nodes of a class
abbrev pub scope_in : List Class → RuleSet → ClassId → Scope
scope_in g r c = record { grammar = g; known = record { superclasses = r.superclasses; attributes = r.attributes }; this = c; variables = [] }

abbrev pub query_with : ℕ → Place → Member → ValueType → Query
query_with k p m t = record { body = call_said (Some m) p (said.Source k) said.no_more; kind = kept_kind t }

-- the query for a member, where it takes no arguments and gives no whole list
abbrev pub query_for : Scope → ℕ → Place → Member → Option Query
query_for s k p m = if length (arguments_wanted s m) == 0 then option_map (query_with k p m) (type_called s m) else None

-- the query `@k.name()` at a node of a class, with the place of the name, where that means something there
abbrev pub query_named : List Class → RuleSet → ℕ → ClassId → List ℕ → Place → Option Query
query_named g r k c name p = option_and_then (query_for (scope_in g r c) k p) (member_of (scope_in g r c) name 0 c)
