use Rattle.std.proofs.Common.{sym, ◌∙◌}
use Rattle.attr_equations.specs.Kept.{rules_in}
use Rattle.monotone_check.specs.Equations.{equation_broken}
use Rattle.monotone_check.proofs.Checked.{next_noted, none_found, first_found}
use Rattle.monotone_check.proofs.equations.check_monotone.Goals as goal

pub loop-number-preserved : goal.loop-number-preserved
loop-number-preserved c =
    let rules = rules_in c.args.rules.now in
    next_noted (equation_broken rules) rules.equations c.loop-number.number c.loop-number-test.true c.equations-number-end.ensures c.loop-number.invariant c.check_equation.ensures

pub returns-in-None : goal.returns-in-None
returns-in-None c =
    let rules = rules_in c.args.rules.now in
    none_found (equation_broken rules) rules.equations c.loop-number.number c.loop-number-test.false c.equations-number-end.ensures c.new-faults.ensures c.loop-number.invariant (sym c.found.ensures ∙ c.in-None.is)

pub returns-in-Some : goal.returns-in-Some
returns-in-Some c =
    let rules = rules_in c.args.rules.now in
    first_found (equation_broken rules) rules.equations c.in-Some.broken c.loop-number.number c.loop-number-test.false c.equations-number-end.ensures c.new-faults.ensures c.loop-number.invariant (sym c.found.ensures ∙ c.in-Some.is)
