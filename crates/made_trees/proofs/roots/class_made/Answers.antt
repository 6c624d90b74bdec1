use Rattle.std.proofs.Common.{None, Some, ◌∙◌}
use Rattle.attr_equations.specs.Kept.{rules_in}
use Rattle.equation_law.specs.Systems.{program_of}
use Rattle.made_trees.proofs.Classes.{class_found, making_found, small_found}
use Rattle.made_trees.proofs.roots.class_made.Goals as goal

pub stand_in-requires-clause-small : goal.stand_in-requires-clause-small
stand_in-requires-clause-small c =
    let p = program_of c.args.system.now in
    small_found p c.requires c.args.attr.0 c.args.class _ (making_found p (rules_in c.rules.result.now) c.args.attr.0 c.args.class c.syn_equation-equation.result c.rules.ensures c.syn_equation-equation.ensures.number)

pub returns-in_err-stand : goal.returns-in_err-stand
returns-in_err-stand c =
    let p = program_of c.args.system.now in
    c.from_residual.ensures ∙ class_found p c.args.attr.0 c.args.position c.args.class _ None (making_found p (rules_in c.rules.result.now) c.args.attr.0 c.args.class c.syn_equation-equation.result c.rules.ensures c.syn_equation-equation.ensures.number) c.in_err-stand.ensures

pub returns : goal.returns
returns c =
    let p = program_of c.args.system.now in
    class_found p c.args.attr.0 c.args.position c.args.class _ (Some c.in_ok-stand.stand) (making_found p (rules_in c.rules.result.now) c.args.attr.0 c.args.class c.syn_equation-equation.result c.rules.ensures c.syn_equation-equation.ensures.number) c.in_ok-stand.ensures
