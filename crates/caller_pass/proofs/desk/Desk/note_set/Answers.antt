use Rattle.std.proofs.Common.{[], sym, subst}
use Rattle.equation_law.specs.declared.system.System.{System}
use Rattle.equation_law.specs.Systems.{program_of}
use Rattle.memo_cells.specs.Working.{Held, program_at}
use Rattle.memo_cells.proofs.Agreeing.{IsOpen, own_open}
use Rattle.caller_pass.specs.Noting.{IsNoted}
use Rattle.caller_pass.proofs.Keeping.{notes_with_set}
use Rattle.caller_pass.proofs.Noted.{noted_copy}
use Rattle.caller_pass.proofs.desk.Desk.note_set.Goals as goal

pub invariant_of-self : goal.invariant_of-self
invariant_of-self c =
    let x = c.self.inside in
    let s = x.system.now in
    let made = x.pass.now.made in
    let given = subst (λ (h : Held). IsNoted (program_at h) h.view.made c.args.i c.args.value.now) (sym c.self.view_is) c.requires in
    let note = subst (λ (t : System). IsNoted (program_of t) made c.args.i c.args.value.now) c.self.invariant.1 given in
    let by = subst (λ (t : System). IsOpen (program_of t) made) c.self.invariant.1 (own_open x.cells.now x.pass.now [] c.self.invariant.0.0) in
    let copied = noted_copy (program_of s) made _ by c.args.i c.args.value.now c.in-Ok.copy c.in-Ok.ensures.same (c.in-Ok.ensures.elements (program_of s)) note in
    ((c.self.invariant.0.0, notes_with_set s x.pass.now x.notes c.self.invariant.0.1 c.note_set.new.self c.args.i c.in-Ok.copy c.note_set.ensures.others c.note_set.ensures.sets copied), c.self.invariant.1)
