-- Declarations, equations and expressions without where they lie in memory.
use Rattle.std.specs.Prelude.{map}
use Rattle.std.specs.Borrow.{Bor}
use Rattle.std.specs.Option.{option_map}
use Rattle.aspect_items.specs.Expressions.{seen_expr, seen_name}
use Rattle.aspect_items.specs.Items.{Contribution, seen_circular, seen_collection, seen_contribution, seen_parameter, seen_signature, seen_type}
use Rattle.aspect_items.specs.declared.items.Contribution as kept_contribution
use Rattle.attr_scope.specs.declared.scope.Scope as kept_scope
use Rattle.attr_scope.specs.declared.scope.Variable as kept_variable
use Rattle.attr_scope.specs.declared.written.Given as kept_given
use Rattle.attr_scope.specs.declared.written.Head as kept_head
use Rattle.attr_scope.specs.Scope.{Scope, Variable}
use Rattle.attr_scope.specs.Written.{Given, Head}

abbrev pub seen_head : kept_head.Head → Head
seen_head h = record {
  sort = h.sort;
  of = seen_type h.of.now;
  class = seen_name h.class.now;
  signature = record { name = seen_name h.name.now; parameters = map seen_parameter h.parameters.now };
  circular = option_map (λ c. seen_circular c.now) h.circular;
  collection = option_map (λ c. seen_collection c.now) h.collection;
}

abbrev pub seen_given : kept_given.Given → Given
seen_given e = record { class = seen_name e.class.now; path = option_map (λ s. seen_signature s.now) e.path; attribute = seen_signature e.attribute.now; body = seen_expr e.body.now }

abbrev pub seen_offer : Bor kept_contribution.Contribution → Contribution
seen_offer c = seen_contribution c.now

abbrev pub seen_variable : kept_variable.Variable → Variable
seen_variable v = record { name = v.name.now; type = v.value_type }

abbrev pub seen_scope : kept_scope.Scope → Scope
seen_scope s = record { grammar = s.grammar.now; known = s.attributes.now; this = s.class; variables = map seen_variable s.variables.now }
