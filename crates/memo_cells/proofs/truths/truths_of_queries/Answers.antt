use Rattle.std.proofs.Common.{arith, ap, ◌∙◌}
use Rattle.attr_rules.specs.Queries.{Query, query_of}
use Rattle.attr_rules.specs.Types.{truth_kind}
use Rattle.equation_law.specs.Systems.{program_of}
use Rattle.memo_cells.proofs.Gathered.{taken, whole}
use Rattle.memo_cells.proofs.truths.truths_of_queries.Goals as goal

pub loop-query-preserved : goal.loop-query-preserved
loop-query-preserved c = taken (λ (q : Query). truth_kind q.kind) (program_of c.args.system.now).queries c.loop-query.query (query_of c.query.result.now) c.loop-query.list.items c.push.new.list.items c.is_truth.result c.query.ensures c.loop-query.invariant c.in_ok-push.ensures (c.is_truth.ensures ∙ ap truth_kind c.kind.ensures)

pub returns : goal.returns
returns c = whole (λ (q : Query). truth_kind q.kind) (program_of c.args.system.now).queries c.loop-query.query c.loop-query.list.items (omega (arith, c.replies-query-end.ensures.number, c.loop-query-test.false)) c.loop-query.invariant
