use Rattle.std.proofs.Common.{arith, map}
use Rattle.equation_law.specs.Systems.{program_of}
use Rattle.plain_rounds.specs.Named.{name_in}
use Rattle.plain_rounds.proofs.Adding.{queries_listed, query_listed}
use Rattle.plain_rounds.proofs.listing.push_queries.Goals as goal

pub loop-query-preserved : goal.loop-query-preserved
loop-query-preserved c = record {
  listed = λ texts. query_listed texts c.loop-query.names.items c.push.new.list.items (program_of c.args.system.now).queries c.loop-query.query _ (omega arith) c.in_ok-push.ensures.added (c.loop-query.invariant.listed texts);
  few = omega arith;
}

pub returns-clause-names : goal.returns-clause-names
returns-clause-names c = λ texts. queries_listed (map (name_in texts) c.loop-query.names.items) _ (program_of c.args.system.now).queries c.loop-query.query (omega (arith, c.loop-query-test.false, c.replies-query-end.ensures.number)) (c.loop-query.invariant.listed texts)
