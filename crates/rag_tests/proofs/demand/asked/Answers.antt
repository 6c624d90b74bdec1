-- A query of the system is an instance.
use Rattle.std.proofs.Common.{◌<◌, arith, length}
use Rattle.equation_law.specs.Systems.{program_of}
use Rattle.query_replies.proofs.Answered.{query_instance}
use Rattle.rag_tests.proofs.demand.asked.Goals as goal

pub ask-requires-clause-instance : goal.ask-requires-clause-instance
ask-requires-clause-instance g c =
    let p = program_of c.args.system.now in
    let within : c.args.query < length p.queries = omega (arith, c.if-query-replies.false, c.replies.ensures.number) in
    λ names named. query_instance p c.args.query within
