-- What a query asks.
use Rattle.attr_rules.specs.declared.kinds.Kind.{Kind}
use Rattle.attr_rules.specs.declared.queries.QueryEq.{QueryEq}
use Rattle.attr_rules.specs.Expression.{Expression, expression_of}

-- an expression, and the type of its values
pub record Query : Type 0 where
  pub body : Expression
  pub kind : Kind

abbrev pub query_of : QueryEq → Query
query_of q = record { body = expression_of q.expression; kind = q.kind }
