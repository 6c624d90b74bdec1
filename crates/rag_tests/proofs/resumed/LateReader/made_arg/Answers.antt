use Rattle.equation_law.specs.Systems.{program_of}
use Rattle.rag_tests.specs.Late.{late}
use Rattle.rag_tests.proofs.Unmade.{argument_unmade}
use Rattle.rag_tests.proofs.resumed.LateReader.made_arg.Goals as goal

pub returns : goal.returns
returns c = argument_unmade (late (program_of c.args.self.now.system.now) c.args.self.now.known) c.args.self.now.system.now (λ q sound. sound.for) (λ n is. is) c.args._node c.args._k 0
