use Rattle.rag_tests.proofs.Counting.{counting_token}
use Rattle.rag_tests.proofs.steps.CountingReader.made_token.Goals as goal

pub returns : goal.returns
returns c = counting_token c.args.self.now.makers.now c.args._node c.args._component 0
