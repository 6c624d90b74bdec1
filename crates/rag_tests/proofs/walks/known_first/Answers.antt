-- The first query is an instance.
use Rattle.std.proofs.Common.{◌<◌, arith, length}
use Rattle.equation_law.specs.Systems.{program_of}
use Rattle.query_replies.proofs.Answered.{query_instance}
use Rattle.rag_tests.proofs.walks.known_first.Goals as goal

pub ask-requires-clause-instance : goal.ask-requires-clause-instance
ask-requires-clause-instance g c =
    let p = program_of c.args.system.now in
    let some : 0 < length p.queries = omega (arith, c.if-replies-eq0.false, c.replies.ensures.number) in
    λ names named. query_instance p 0 some
