use Rattle.std.proofs.Common.{refl}
use Rattle.equation_law.specs.Systems.{program_of}
use Rattle.rag_tests.specs.Nothing.{nothing}
use Rattle.rag_tests.proofs.Unmade.{class_unmade}
use Rattle.rag_tests.proofs.forms.NothingReader.made_class.Goals as goal

pub returns : goal.returns
returns c = class_unmade (nothing (program_of c.args.self.now.system.now)) c.args.self.now.system.now (λ q sound. sound.for) (λ n is. is) c.args._node (record { 0 = 65535 }) refl
