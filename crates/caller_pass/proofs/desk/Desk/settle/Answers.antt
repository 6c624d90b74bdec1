use Rattle.std.proofs.Common.{subst}
use Rattle.equation_law.specs.Names.{Instance}
use Rattle.memo_cells.specs.Naming.{IsCellOf}
use Rattle.memo_cells.specs.Standing.{Knows}
use Rattle.memo_cells.specs.Working.{Held, program_at}
use Rattle.equation_law.specs.Systems.{program_of}
use Rattle.caller_pass.proofs.Knowing.{settled_knows}
use Rattle.caller_pass.proofs.Keeping.{notes_later}
use Rattle.caller_pass.proofs.desk.Desk.settle.Goals as goal

pub invariant_of-self : goal.invariant_of-self
invariant_of-self c = ((c.settle.ensures.own, notes_later c.self.inside.system.now c.self.inside.pass.now c.settle.new.pass c.self.inside.notes c.settle.ensures.kept c.self.invariant.0.1), c.self.invariant.1)

pub returns-clause-known : goal.returns-clause-known
returns-clause-known c =
    let f = c.self.inside.cells.now in
    subst (λ (d : Held). (i : Instance) → IsCellOf (program_at d) d.frame d.view i c.args.slot.0 → Knows (program_at d) c.settle.new.pass i) c.self.view_is
    (λ i cell. settled_knows (program_of f.system.value) f c.self.inside.pass.now c.settle.new.pass i c.args.slot.0 c.settle.result c.settle.ensures.kept cell c.settle.ensures.known)
