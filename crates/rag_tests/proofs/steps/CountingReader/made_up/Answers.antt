use Rattle.std.proofs.Common.{refl}
use Rattle.made_trees.proofs.Readers.{told_up}
use Rattle.rag_tests.specs.Counting.{told_by}
use Rattle.rag_tests.proofs.Counting.{by_naming, for_makers}
use Rattle.rag_tests.proofs.steps.CountingReader.made_up.Goals as goal

pub returns : goal.returns
returns c = told_up (told_by c.args.self.now.makers.now) c.args.self.now.makers.now (for_makers c.args.self.now.makers.now) (by_naming c.args.self.now.makers.now) (λ k. tt) refl c.args.node c.up_of.result c.up_of.ensures.above c.up_of.ensures.falls
