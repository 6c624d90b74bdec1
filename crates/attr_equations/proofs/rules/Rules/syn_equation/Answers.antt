use Rattle.attr_equations.proofs.KeptRules.{equation_found, equation_within}
use Rattle.attr_equations.proofs.rules.Rules.syn_equation.Goals as goal

pub returns-clause-number : goal.returns-clause-number
returns-clause-number c =
    let r = c.args.self.now in
    equation_found r.attributes.superclasses r.equations.items r.dispatch r.dispatched c.args.class.0 c.args.a.0 c.find.ensures

pub returns-clause-within : goal.returns-clause-within
returns-clause-within c =
    let r = c.args.self.now in
    equation_within r.attributes.superclasses r.equations.items r.dispatch r.dispatched c.args.class.0 c.args.a.0 c.find.ensures
