-- Equations as the code keeps them.
use Rattle.attr_rules.specs.declared.dispatch.Target.{Target}
use Rattle.attr_equations.specs.declared.rules.KeptEquation.{KeptEquation}
use Rattle.attr_rules.specs.Expression.{expression_of}
use Rattle.attr_rules.specs.Rules.{Equation}

abbrev pub equation_in : KeptEquation → Equation
equation_in e = record { target = e.target; body = expression_of e.body }

abbrev pub kept_target : KeptEquation → Target
kept_target e = e.target
