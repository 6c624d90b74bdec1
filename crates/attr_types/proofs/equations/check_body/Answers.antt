use Rattle.std.proofs.Common.{ap, map, ◌∙◌}
use Rattle.attr_scope.specs.Seen.{seen_given, seen_variable}
use Rattle.attr_rules.specs.Expression.{expression_of}
use Rattle.attr_types.proofs.EquationBodies.{body_noted, body_said}
use Rattle.attr_types.proofs.equations.check_body.Goals as goal

pub returns-clause-noted : goal.returns-clause-noted
returns-clause-noted c =
    body_noted c.args.grammar.now c.args.attributes.now (seen_given c.args.equation.now) c.args.target c.requires.attributes c.requires.target (ap (map seen_variable) c.deref.ensures.value ∙ c.in_ok-variables.ensures) c.creates-creates.ensures c.wanted_by-wanted.ensures
    c.in_ok-body.ensures.noted

pub returns-clause-says : goal.returns-clause-says
returns-clause-says c =
    body_said c.args.grammar.now c.args.attributes.now (seen_given c.args.equation.now) c.args.target c.requires.attributes c.requires.target (ap (map seen_variable) c.deref.ensures.value ∙ c.in_ok-variables.ensures)
    (expression_of c.in_ok-body.body) (expression_of c.said_for-body.result) c.creates-creates.ensures c.in_ok-body.ensures.says c.said_for-body.ensures
