use Rattle.rag_tests.proofs.Counting.{counting_settled}
use Rattle.rag_tests.proofs.steps.CountingReader.settled.Goals as goal

pub returns : goal.returns
returns c = counting_settled c.args.self.now.makers.now c.args._i.now
