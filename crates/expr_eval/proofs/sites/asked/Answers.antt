use Rattle.attr_rules.specs.Queries.{query_of}
use Rattle.equation_law.specs.Systems.{program_of}
use Rattle.expr_eval.proofs.Found.{query_evaluated}
use Rattle.expr_eval.proofs.sites.asked.Goals as goal

pub returns-clause-resumes : goal.returns-clause-resumes
returns-clause-resumes g c = λ q found.
    query_evaluated (program_of c.args.system.now) _ _ q (query_of c.query.result.now) c.args.query.0 _ c.meaning.new.came c.turned.result c.query.ensures c.expression.ensures c.meaning.ensures c.turned.ensures.is found
