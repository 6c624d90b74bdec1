use Rattle.attr_equations.proofs.KeptRules.{covering_found, covering_within}
use Rattle.attr_equations.proofs.rules.Rules.inh_equation.Goals as goal

pub returns-clause-number : goal.returns-clause-number
returns-clause-number c =
    let r = c.args.self.now in
    covering_found r.attributes.superclasses r.equations.items r.dispatch r.dispatched c.args.class.0 c.args.via c.in_ok-first.first c.find_covering.result
    c.find_covering.ensures _ c.in_ok-first.ensures

pub returns-clause-within : goal.returns-clause-within
returns-clause-within c =
    let r = c.args.self.now in
    covering_within r.attributes.superclasses r.equations.items r.dispatch r.dispatched c.args.class.0 c.args.via c.in_ok-first.first c.find_covering.result
    c.find_covering.ensures
