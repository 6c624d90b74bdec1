use Rattle.std.proofs.Common.{arith}
use Rattle.equation_law.specs.Codes.{source_names}
use Rattle.equation_law.specs.Program.{text_of}
use Rattle.equation_law.specs.Systems.{program_of}
use Rattle.equation_law.proofs.Pooled.{first_text}
use Rattle.rag_tests.proofs.Lately.{late_some}
use Rattle.rag_tests.proofs.resumed.LateReader.settled.Goals as goal

pub returns-then-number-self : goal.returns-then-number-self
returns-then-number-self c =
    let system = c.args.self.now.system.now in
    let p = program_of system in
    late_some p c.args.self.now.known c.max-self.result c.args.i.now c.in-Attr.attr c.in-Attr.node c.in-Attr.args c.read_as.result _ c.in-Attr.is (omega (arith, c.max-self.ensures)) (omega (arith, c.number_of-number.ensures.number, c.if-number-self.true)) c.kind_of-kind.ensures (c.read_as.ensures.value (source_names (text_of p)) (first_text system)) (c.read_as.ensures.elements p tt)
