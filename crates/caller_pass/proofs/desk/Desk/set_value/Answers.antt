use Rattle.std.proofs.Common.{[], sym, ap, subst, ◌∙◌}
use Rattle.equation_law.specs.declared.system.System.{System}
use Rattle.equation_law.specs.Codes.{instance_by}
use Rattle.equation_law.specs.Program.{Program}
use Rattle.equation_law.specs.Systems.{program_of}
use Rattle.memo_cells.specs.declared.view.Frame.{Frame}
use Rattle.memo_cells.specs.Working.{Held, program_at}
use Rattle.memo_cells.proofs.Agreeing.{IsOpen, own_open}
use Rattle.memo_cells.proofs.Holding.{own_then}
use Rattle.caller_pass.specs.Holding.{IsReadValueAt}
use Rattle.caller_pass.specs.Noting.{IsNoted}
use Rattle.caller_pass.proofs.Noted.{known_noted, noted_known, shown_known}
use Rattle.caller_pass.proofs.desk.Desk.set_value.Goals as goal

pub returns-in-Some-clause-value : goal.returns-in-Some-clause-value
returns-in-Some-clause-value c = λ good names named.
    let d = c.args.self.now in
    let p = program_at d in
    let x = c.self.inside in
    let its = c.in-Some.ensures (program_of x.system.now) x.pass.now.made _ (subst (λ (s : System). IsOpen (program_of s) x.pass.now.made) c.self.invariant.1 (own_open x.cells.now x.pass.now [] c.self.invariant.0.0)) c.self.invariant.0.1.sets in
    let same = sym c.self.invariant.1 ∙ ap (λ (h : Held). h.frame.system.value) c.self.view_is in
    let note = subst (λ (s : System). IsNoted (program_of s) d.view.made c.args.i c.in-Some.value) same (subst (λ (h : Held). IsNoted (program_of x.system.now) h.view.made c.args.i c.in-Some.value) c.self.view_is its) in
    noted_known p names d.view (instance_by p names c.args.i) c.in-Some.value ((note good).0 names named) (note good).1 (c.requires.known good names named).1

pub note_set-requires : goal.note_set-requires
note_set-requires c =
    let d = c.args.self.now in
    let p = program_at d in
    let e = c.value_shown.new.work in
    let x = c.in_ok-value.value in
    let known = shown_known d e c.args.i c.args.slot c.args.kind x c.in_ok-value.ensures.on.on.kept c.requires.known c.requires.kind c.requires.set c.in_ok-value.ensures.shown in
    subst (λ (q : Program). IsNoted q e.view.made c.args.i x) (ap (λ (f : Frame). program_of f.system.value) (sym c.in_ok-value.ensures.on.on.cells))
    (λ good. ((λ names named. known_noted p names e.view (instance_by p names c.args.i) x (known good names named)), (known good _ (own_open d.frame e.view [] (own_then d e c.in_ok-value.ensures.on.on))).nodes))

pub returns-clause-value : goal.returns-clause-value
returns-clause-value c =
    let d = c.args.self.now in
    let e = c.value_shown.new.work in
    let x = c.in_ok-value.value in
    let known = shown_known d e c.args.i c.args.slot c.args.kind x c.in_ok-value.ensures.on.on.kept c.requires.known c.requires.kind c.requires.set c.in_ok-value.ensures.shown in
    subst (λ (h : Held). IsReadValueAt d h c.args.i x) (sym c.note_set.ensures) known
