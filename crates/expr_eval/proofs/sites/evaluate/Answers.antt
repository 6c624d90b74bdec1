use Rattle.std.proofs.Common.{subst, sym}
use Rattle.attr_equations.proofs.BodiesFound.{equation_within}
use Rattle.attr_rules.proofs.RowLists.{there}
use Rattle.attr_rules.specs.declared.dispatch.Target.{Target}
use Rattle.equation_law.specs.Systems.{program_of}
use Rattle.inherited_walk.specs.Sites.{KnowsSite}
use Rattle.expr_eval.specs.Evaluating.{Evaluates}
use Rattle.expr_eval.specs.Sites.{site_reads}
use Rattle.expr_eval.proofs.Found.{evaluated, target_here}
use Rattle.expr_eval.proofs.sites.evaluate.Goals as goal

pub evaluate_for-requires-clause-equation : goal.evaluate_for-requires-clause-equation
evaluate_for-requires-clause-equation g c = equation_within (program_of c.args.system.now).rules c.args.site.now.equation.0 c.requires.equation

-- the equation is read for the attribute of its target
pub evaluate_for-requires-clause-known : goal.evaluate_for-requires-clause-known
evaluate_for-requires-clause-known g c =
    let p = program_of c.args.system.now in
    let q = there p.rules.equations c.args.site.now.equation.0 c.requires.equation in
    subst (λ (target : Target). KnowsSite p (g.R.Reader.tells c.args.reader.now) target.attribute.0 c.args.site.now) (target_here c.args.site.now.equation.0 c.rules.ensures c.target.ensures q.1) (c.requires.known q.0 q.1)

pub returns-clause-evaluates : goal.returns-clause-evaluates
returns-clause-evaluates g c q found =
    let p = program_of c.args.system.now in
    subst (λ (target : Target). Evaluates p (g.R.Reader.tells c.args.reader.now) (g.R.Reader.tells c.evaluate_for.new.reader) (site_reads p target.attribute.0 c.args.site.now) c.evaluate_for.result) (sym (target_here c.args.site.now.equation.0 c.rules.ensures c.target.ensures found))
    (evaluated c.evaluate_for.ensures.reads)
