use Rattle.std.proofs.Common.{ap, not, refl, sym, subst, ◌∙◌}
use Rattle.equation_law.specs.Systems.{program_of}
use Rattle.expr_eval.specs.Saved.{AreSaved}
use Rattle.circular_eval.specs.declared.advancing.CircFault.TheVariants.{Memory}
use Rattle.circular_eval.specs.Local.{Members, reads_here}
use Rattle.circular_eval.proofs.Going.{ready_then}
use Rattle.circular_eval.proofs.Passing.{came_read, coded_member, final_entry, goes_read, kept_members, known_member, no_entry, read_refused, same_step, single_member, step_saved, step_then}
use Rattle.circular_eval.proofs.Raised.{err_is}
use Rattle.circular_eval.proofs.visiting.step.Goals as goal

pub returns-in_default-clause-steps : goal.returns-in_default-clause-steps
returns-in_default-clause-steps g c =
    same_step c.args.system.now (g.W.Words.held c.args.work.now) c.args.local.now c.args.number c.requires.ready (λ e at some. no_entry c.args.local.now.members.entries c.args.number c.in_default.ensures e at)

pub returns-then-is_none-clause-steps : goal.returns-then-is_none-clause-steps
returns-then-is_none-clause-steps g c =
    same_step c.args.system.now (g.W.Words.held c.args.work.now) c.args.local.now c.args.number c.requires.ready (final_entry c.args.local.now.members.entries c.args.number (c.in-Some.instance.now, c.in-Some.member.now) (sym c.in-Some.ensures) (c.is_none.ensures ∙ ap not c.if-is_none.true))

pub evaluate-requires-clause-own : goal.evaluate-requires-clause-own
evaluate-requires-clause-own g c =
    c.requires.ready.own

pub evaluate-requires-clause-same : goal.evaluate-requires-clause-same
evaluate-requires-clause-same g c =
    c.requires.ready.same

pub evaluate-requires-clause-coded : goal.evaluate-requires-clause-coded
evaluate-requires-clause-coded g c =
    coded_member c.args.system.now (g.W.Words.held c.args.work.now) c.args.local.now c.requires.ready c.args.number (c.in-Some.instance.now, c.in-Some.member.now) (sym c.in-Some.ensures)

pub evaluate-requires-clause-known : goal.evaluate-requires-clause-known
evaluate-requires-clause-known g c =
    known_member c.args.system.now (g.W.Words.held c.args.work.now) c.args.local.now c.requires.ready c.args.number (c.in-Some.instance.now, c.in-Some.member.now) (sym c.in-Some.ensures)

pub evaluate-requires-clause-single : goal.evaluate-requires-clause-single
evaluate-requires-clause-single g c =
    single_member c.args.system.now (g.W.Words.held c.args.work.now) c.args.local.now c.requires.ready c.args.number (c.in-Some.instance.now, c.in-Some.member.now) (sym c.in-Some.ensures)

pub evaluate-requires-clause-kept : goal.evaluate-requires-clause-kept
evaluate-requires-clause-kept g c =
    kept_members c.args.system.now (g.W.Words.held c.args.work.now) c.args.local.now c.requires.ready

pub evaluate-requires-clause-saved : goal.evaluate-requires-clause-saved
evaluate-requires-clause-saved g c =
    c.requires.saved

pub returns-in_err-came-clause-steps : goal.returns-in_err-came-clause-steps
returns-in_err-came-clause-steps g c =
    read_refused c.args.system.now (g.W.Words.held c.args.work.now) (g.W.Words.held c.evaluate.new.work) c.args.local.now c.args.local.now c.args.number c.requires.ready c.evaluate.ensures.on (record { start = refl; entries = refl; need = refl; saved = refl }) c.from_residual.result (err_is c.from_residual.result Memory c.from_residual.ensures)

pub returns-in_err-note_reads-clause-steps : goal.returns-in_err-note_reads-clause-steps
returns-in_err-note_reads-clause-steps g c =
    read_refused c.args.system.now (g.W.Words.held c.args.work.now) (g.W.Words.held c.evaluate.new.work) c.args.local.now c.note_reads.new.self c.args.number c.requires.ready c.evaluate.ensures.on (record { start = c.note_reads.ensures.start; entries = ap (λ x. x.entries) c.note_reads.ensures.members; need = c.note_reads.ensures.need; saved = c.note_reads.ensures.saved }) c.from_residual-in_err-note_reads.result (err_is c.from_residual-in_err-note_reads.result Memory c.from_residual-in_err-note_reads.ensures)

pub follow-requires-clause-ready : goal.follow-requires-clause-ready
follow-requires-clause-ready g c =
    ready_then c.args.system.now (g.W.Words.held c.args.work.now) (g.W.Words.held c.evaluate.new.work) c.args.local.now c.note_reads.new.self c.requires.ready (goes_read c.args.system.now (g.W.Words.held c.args.work.now) (g.W.Words.held c.evaluate.new.work) c.args.local.now c.note_reads.new.self c.requires.ready c.evaluate.ensures.on (record { start = c.note_reads.ensures.start; entries = ap (λ x. x.entries) c.note_reads.ensures.members; need = c.note_reads.ensures.need; saved = c.note_reads.ensures.saved }))

pub follow-requires-clause-came : goal.follow-requires-clause-came
follow-requires-clause-came g c =
    came_read c.args.system.now (g.W.Words.held c.args.work.now) (g.W.Words.held c.evaluate.new.work) c.args.local.now c.note_reads.new.self c.args.number (c.in-Some.instance.now, c.in-Some.member.now) c.in_ok-came.came.turn c.requires.ready c.evaluate.ensures.on (ap (λ x. x.entries) c.note_reads.ensures.members) (sym c.in-Some.ensures) (c.is_none.ensures ∙ ap not c.if-is_none.false) c.in_ok-came.ensures.came

pub returns-clause-steps : goal.returns-clause-steps
returns-clause-steps g c =
    step_then c.args.system.now (g.W.Words.held c.args.work.now) (g.W.Words.held c.evaluate.new.work) (g.W.Words.held c.follow.new.work) c.args.local.now c.note_reads.new.self c.follow.new.local c.args.number c.follow.result c.requires.ready c.evaluate.ensures.on (record { start = c.note_reads.ensures.start; entries = ap (λ x. x.entries) c.note_reads.ensures.members; need = c.note_reads.ensures.need; saved = c.note_reads.ensures.saved }) c.note_reads.ensures.due c.follow.ensures

pub returns-clause-saved : goal.returns-clause-saved
returns-clause-saved g c =
    let s = c.args.system.now in
    let e = g.W.Words.held c.evaluate.new.work in
    step_saved s e (g.W.Words.held c.follow.new.work) c.note_reads.new.self c.follow.new.local c.args.number c.evaluate.new.saved (ready_then c.args.system.now (g.W.Words.held c.args.work.now) (g.W.Words.held c.evaluate.new.work) c.args.local.now c.note_reads.new.self c.requires.ready (goes_read c.args.system.now (g.W.Words.held c.args.work.now) (g.W.Words.held c.evaluate.new.work) c.args.local.now c.note_reads.new.self c.requires.ready c.evaluate.ensures.on (record { start = c.note_reads.ensures.start; entries = ap (λ x. x.entries) c.note_reads.ensures.members; need = c.note_reads.ensures.need; saved = c.note_reads.ensures.saved }))) c.follow.result c.follow.ensures
    (subst (λ (es : Members). AreSaved s (reads_here (program_of s) e.view es) c.evaluate.new.saved) (sym (ap (λ x. x.entries) c.note_reads.ensures.members)) c.evaluate.ensures.saved)
