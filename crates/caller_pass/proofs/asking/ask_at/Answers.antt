use Rattle.std.proofs.Common.{sym, ap, subst, ◌∙◌}
use Rattle.equation_law.specs.declared.system.System.{System}
use Rattle.equation_law.specs.Checked.{IsProgram}
use Rattle.equation_law.specs.Codes.{IsCoded}
use Rattle.equation_law.specs.Systems.{program_of}
use Rattle.memo_cells.specs.declared.view.Frame.{Frame}
use Rattle.memo_cells.specs.declared.view.View.{View}
use Rattle.memo_cells.specs.Causes.{IsLogOn}
use Rattle.memo_cells.specs.Standing.{IsPassOf}
use Rattle.memo_cells.specs.Views.{IsAtLeast}
use Rattle.memo_cells.specs.Agreeing.{IsKnownInstance}
use Rattle.memo_cells.specs.Working.{Held}
use Rattle.caller_pass.specs.Answering.{AsksNotedByEach}
use Rattle.caller_pass.specs.Holding.{IsInstanceByEach}
use Rattle.caller_pass.specs.Keeping.{IsNotebookOf}
use Rattle.memo_cells.proofs.Holding.{own_then}
use Rattle.caller_pass.proofs.asking.ask_at.Goals as goal

pub invariant_of-desk : goal.invariant_of-desk
invariant_of-desk g c = ((c.requires.own, c.requires.notes), c.requires.same)

pub answer-came-requires-clause-program : goal.answer-came-requires-clause-program
answer-came-requires-clause-program g c = subst (λ (s : System). IsProgram (program_of s)) (sym c.requires.same) c.requires.program

pub answer-came-requires-clause-instance : goal.answer-came-requires-clause-instance
answer-came-requires-clause-instance g c = subst (λ (s : System). IsInstanceByEach (program_of s) c.args.pass.now c.args.i.now) (sym c.requires.same) c.requires.instance

pub answer-came-requires-clause-coded : goal.answer-came-requires-clause-coded
answer-came-requires-clause-coded g c = subst (λ (s : System). IsCoded (program_of s) c.args.i.now) (sym c.requires.same) c.requires.coded

pub answer-came-requires-clause-known : goal.answer-came-requires-clause-known
answer-came-requires-clause-known g c = subst (λ (s : System). IsKnownInstance (program_of s) c.args.pass.now.made c.args.i.now) (sym c.requires.same) c.requires.known

pub returns-clause-own : goal.returns-clause-own
returns-clause-own g c = subst (λ (v : View). IsPassOf c.args.cells.now v) (sym ((c.pass-1.given.1 (sym (ap (λ (h : Held). h.lender) c.desk.view_is ∙ c.answer-came.ensures.on.lender))) ∙ ap (λ (h : Held). h.view) c.desk.view_is)) (own_then _ c.answer-came.new.desk c.answer-came.ensures.on)

pub returns-clause-kept : goal.returns-clause-kept
returns-clause-kept g c = subst (λ (v : View). IsAtLeast c.args.pass.now v) (sym ((c.pass-1.given.1 (sym (ap (λ (h : Held). h.lender) c.desk.view_is ∙ c.answer-came.ensures.on.lender))) ∙ ap (λ (h : Held). h.view) c.desk.view_is)) c.answer-came.ensures.on.kept

pub returns-clause-log : goal.returns-clause-log
returns-clause-log g c = subst (λ (v : View). IsLogOn c.args.pass.now v) (sym ((c.pass-1.given.1 (sym (ap (λ (h : Held). h.lender) c.desk.view_is ∙ c.answer-came.ensures.on.lender))) ∙ ap (λ (h : Held). h.view) c.desk.view_is)) c.answer-came.ensures.on.log

pub returns-clause-notes : goal.returns-clause-notes
returns-clause-notes g c =
    let same = sym c.desk.invariant.1 ∙ ap (λ (h : Held). h.frame.system.value) c.desk.view_is ∙ ap (λ (f : Frame). f.system.value) c.answer-came.ensures.on.cells ∙ c.requires.same in
    subst (λ (v : View). IsNotebookOf c.args.system.now v c.desk.inside.notes) (sym (c.pass-1.given.1 (sym (ap (λ (h : Held). h.lender) c.desk.view_is ∙ c.answer-came.ensures.on.lender))))
    (subst (λ (s : System). IsNotebookOf s c.desk.inside.pass.now c.desk.inside.notes) same c.desk.invariant.0.1)

pub returns-clause-asked : goal.returns-clause-asked
returns-clause-asked g c = subst (λ (s : System). AsksNotedByEach (program_of s) c.args.cells.now c.args.pass.now c.pass-1.given.0 c.args.i.now c.args.evals.now c.answer-came.new.evals c.answer-came.result) c.requires.same (subst (λ (v : View). AsksNotedByEach (program_of c.args.cells.now.system.value) c.args.cells.now c.args.pass.now v c.args.i.now c.args.evals.now c.answer-came.new.evals c.answer-came.result) (sym ((c.pass-1.given.1 (sym (ap (λ (h : Held). h.lender) c.desk.view_is ∙ c.answer-came.ensures.on.lender))) ∙ ap (λ (h : Held). h.view) c.desk.view_is)) c.answer-came.ensures.asked)
