-- Where typed expressions call circular attributes, and which of them are rising, by the declarations of some rules.
use Rattle.std.specs.Prelude.{Bool}
use Rattle.attr_equations.specs.declared.rules.Rules.{Rules}
use Rattle.attr_equations.specs.Kept.{rules_in}
use Rattle.attr_rules.specs.declared.expression.Quantifier.{Quantifier}
use Rattle.attr_rules.specs.declared.expression.SetOperator.{SetOperator}
use Rattle.attr_rules.specs.declared.expression.TExpr.{TExpr}
use Rattle.attr_rules.specs.Expression.{expression_of}
use Rattle.attr_rules.specs.Rising.{body_rises, has_call, range_rises, rises, second_rises}
use Rattle.attr_rules.specs.Rules.{circular_at}
use Rattle.equation_law.specs.Equations.{equation_of, equation_rises}
use Rattle.equation_law.specs.Names.{Instance}
use Rattle.equation_law.specs.Program.{Program}

-- the expression calls a circular attribute, at any depth
abbrev pub calls_circular : Rules → TExpr → Bool
calls_circular r e = has_call (circular_at (rules_in r).attributes) (expression_of e)

-- each such call in it stands in permitted positions alone
abbrev pub rises_by : Rules → TExpr → Bool
rises_by r e = rises (circular_at (rules_in r).attributes) (expression_of e)

-- the expression may be the body of a form that is rising
abbrev pub body_permits : Rules → Quantifier → TExpr → Bool
body_permits r form e = body_rises form (calls_circular r e) (rises_by r e)

-- it may be the set that such a form goes over
abbrev pub range_permits : Rules → Quantifier → TExpr → Bool
range_permits r form e = range_rises form (calls_circular r e) (rises_by r e)

-- it may be the second argument of a form that makes a set of two and is rising
abbrev pub second_permits : Rules → SetOperator → TExpr → Bool
second_permits r form e = second_rises form (calls_circular r e) (rises_by r e)

-- the equation of an instance is a rising expression
abbrev pub equation_rises_in : Program → Instance → Bool
equation_rises_in p i = equation_rises (circular_at p.rules.attributes) (equation_of p i)
