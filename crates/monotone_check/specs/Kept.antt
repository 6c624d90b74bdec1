-- Expressions of kept rules: what the calls in them break, and whether they have one.
use Rattle.std.specs.Prelude.{List, Bool, Option}
use Rattle.broken_rules.specs.declared.broken.Broken.{Broken}
use Rattle.broken_rules.specs.declared.rule.Rule.{Rule}
use Rattle.attr_rules.specs.declared.expression.TExpr.{TExpr}
use Rattle.attr_rules.specs.Expression.{expression_of}
use Rattle.attr_rules.specs.Rising.{has_call}
use Rattle.attr_equations.specs.declared.rules.Rules.{Rules}
use Rattle.attr_equations.specs.Kept.{rules_in}
use Rattle.monotone_check.specs.Equations.{is_circular}
use Rattle.monotone_check.specs.Positions.{broken_in}

-- what the calls of circular attributes break in an expression that stands in such a position
abbrev pub broken_at : Rules → Option Rule → TExpr → List Broken
broken_at r refused e = broken_in (is_circular (rules_in r)) refused (expression_of e)

-- whether it has such a call, at any depth
abbrev pub has_circular : Rules → TExpr → Bool
has_circular r e = has_call (is_circular (rules_in r)) (expression_of e)
