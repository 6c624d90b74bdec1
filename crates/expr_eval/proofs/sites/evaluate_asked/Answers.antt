use Rattle.std.proofs.Common.{refl, arith}
use Rattle.attr_rules.specs.Queries.{query_of}
use Rattle.attr_rules.proofs.RowLists.{there}
use Rattle.equation_law.specs.declared.coding.Instance.TheVariants.{Query as query_at}
use Rattle.equation_law.specs.Systems.{program_of}
use Rattle.equation_law.proofs.Pooled.{first_text}
use Rattle.expr_eval.proofs.Found.{asked_evaluated, failed, none_evaluated, past_query, plain_read}
use Rattle.expr_eval.proofs.sites.evaluate_asked.Goals as goal

pub returns-then-query-replies-clause-resumes : goal.returns-then-query-replies-clause-resumes
returns-then-query-replies-clause-resumes g c =
    let p = program_of c.args.system.now in
    none_evaluated p _ (query_at c.args.query) c.requires (λ n named. refl) (λ n named. past_query p c.args.query.0 (omega (arith, c.replies.ensures.number, c.if-query-replies.true))) _ tt (c.requires.sound.sources 0 (omega arith)) (λ n. refl)

pub returns-clause-resumes : goal.returns-clause-resumes
returns-clause-resumes g c =
    asked_evaluated (program_of c.args.system.now) _ _ c.args.query (query_of c.query.result.now) c.kind.result c.in_ok-turn.turn c.read_as.result (first_text c.args.system.now) c.query.ensures c.kind.ensures c.in_ok-turn.ensures.plain
    (c.in_ok-turn.ensures.resumes (query_of c.query.result.now) c.query.ensures) c.read_as.ensures

pub returns-in_err-turn-clause-resumes : goal.returns-in_err-turn-clause-resumes
returns-in_err-turn-clause-resumes g c =
    let p = program_of c.args.system.now in
    let q = there p.queries c.args.query.0 (omega (arith, c.replies.ensures.number, c.if-query-replies.false)) in
    failed p _ _ _ _ (c.in_err-turn.ensures.resumes q.0 q.1).kept c.from_residual.ensures.0

pub returns-clause-plain : goal.returns-clause-plain
returns-clause-plain g c = plain_read c.kind.result c.in_ok-turn.turn c.read_as.result c.in_ok-turn.ensures.plain c.read_as.ensures
