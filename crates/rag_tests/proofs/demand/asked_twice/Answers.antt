-- The first query is an instance.
use Rattle.equation_law.specs.Systems.{program_of}
use Rattle.query_replies.proofs.Answered.{query_instance}
use Rattle.rag_tests.proofs.demand.asked_twice.Goals as goal

pub ask-requires-clause-instance : goal.ask-requires-clause-instance
ask-requires-clause-instance g c = λ names named. query_instance (program_of c.args.system.now) 0 c.requires.query

pub ask_again-again-requires-clause-instance : goal.ask_again-again-requires-clause-instance
ask_again-again-requires-clause-instance g c = λ names named. query_instance (program_of c.args.system.now) 0 c.requires.query

pub ask_again-again-requires-clause-settled : goal.ask_again-again-requires-clause-settled
ask_again-again-requires-clause-settled g c = λ names agrees. (c.in-Ok.ensures.asked names agrees).answer.1
