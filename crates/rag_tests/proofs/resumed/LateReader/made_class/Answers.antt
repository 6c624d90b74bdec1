use Rattle.std.proofs.Common.{refl}
use Rattle.equation_law.specs.Systems.{program_of}
use Rattle.rag_tests.specs.Late.{late}
use Rattle.rag_tests.proofs.Unmade.{class_unmade}
use Rattle.rag_tests.proofs.resumed.LateReader.made_class.Goals as goal

pub returns : goal.returns
returns c = class_unmade (late (program_of c.args.self.now.system.now) c.args.self.now.known) c.args.self.now.system.now (λ q sound. sound.for) (λ n is. is) c.args._node (record { 0 = 65535 }) refl
