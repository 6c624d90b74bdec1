use Rattle.equation_law.specs.Systems.{program_of}
use Rattle.rag_tests.specs.Nothing.{nothing}
use Rattle.rag_tests.proofs.Unmade.{order_unmade}
use Rattle.rag_tests.proofs.forms.NothingReader.made_order.Goals as goal

pub returns : goal.returns
returns c = order_unmade (nothing (program_of c.args.self.now.system.now)) c.args.self.now.system.now (λ q sound. sound.for) (λ n is. is) c.args.a c.args.b c.cmp.result c.cmp.ensures
