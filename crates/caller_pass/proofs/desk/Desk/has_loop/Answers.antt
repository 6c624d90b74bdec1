use Rattle.std.proofs.Common.{sym, subst, ◌∙◌}
use Rattle.equation_law.specs.declared.system.System.{System}
use Rattle.equation_law.specs.Systems.{program_of}
use Rattle.memo_cells.specs.Working.{Held, program_at}
use Rattle.caller_pass.specs.Noting.{IsLooping}
use Rattle.caller_pass.proofs.desk.Desk.has_loop.Goals as goal

pub returns : goal.returns
returns c = λ noted.
    let x = c.self.inside in
    let loop = c.self.invariant.0.1.loops c.args.i.now (sym c.has_loop.ensures ∙ noted) in
    subst (λ (h : Held). IsLooping (program_at h) h.view.made c.args.i.now) c.self.view_is
    (subst (λ (s : System). IsLooping (program_of s) x.pass.now.made c.args.i.now) (sym c.self.invariant.1) loop)
