use Rattle.made_trees.proofs.Readers.{told_argument}
use Rattle.rag_tests.specs.Counting.{told_by}
use Rattle.rag_tests.proofs.Counting.{by_naming, for_makers}
use Rattle.rag_tests.proofs.steps.CountingReader.made_arg.Goals as goal

pub returns : goal.returns
returns c = told_argument (told_by c.args.self.now.makers.now) c.args.self.now.makers.now (for_makers c.args.self.now.makers.now) (by_naming c.args.self.now.makers.now) (λ k. tt) c.args.node c.args.k c.argument_of.result c.argument_of.ensures.argument
