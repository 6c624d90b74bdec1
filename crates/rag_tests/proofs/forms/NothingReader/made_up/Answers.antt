use Rattle.std.proofs.Common.{arith, refl}
use Rattle.equation_law.specs.Systems.{program_of}
use Rattle.rag_tests.specs.Nothing.{nothing}
use Rattle.rag_tests.proofs.Unmade.{up_unmade}
use Rattle.rag_tests.proofs.forms.NothingReader.made_up.Goals as goal

pub returns : goal.returns
returns c = up_unmade (nothing (program_of c.args.self.now.system.now)) c.args.self.now.system.now (λ q sound. sound.for) (λ n is. is) (λ k past. omega (arith, past)) c.args._node _ refl
