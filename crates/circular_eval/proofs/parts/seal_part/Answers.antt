use Rattle.std.proofs.Common.{Ok, true, refl, subst, sym}
use Rattle.circular_eval.specs.declared.advancing.CircFault.TheVariants.{Memory}
use Rattle.circular_eval.specs.declared.advancing.CircTurn.{CircTurn}
use Rattle.circular_eval.specs.Visiting.{Advances}
use Rattle.circular_eval.proofs.Going.{with_itself}
use Rattle.circular_eval.proofs.Parting.{err_memory, ok_memory, part_done, part_fails, part_ready, part_taken, part_waited, part_waits, parts_none}
use Rattle.circular_eval.proofs.Raised.{err_is}
use Rattle.circular_eval.proofs.Sealing.{same_itself}
use Rattle.circular_eval.proofs.parts.seal_part.Goals as goal

pub returns-in_default-clause-part : goal.returns-in_default-clause-part
returns-in_default-clause-part g c =
    parts_none c.args.system.now (g.W.Words.held c.args.work.now) c.args.local.now c.args.local.now c.requires.ready (with_itself c.args.system.now (g.W.Words.held c.args.work.now) c.args.local.now c.requires.ready) (same_itself c.args.local.now.members.entries) (Ok true) (ok_memory true (Ok true) refl)

pub returns-in_default-clause-answer : goal.returns-in_default-clause-answer
returns-in_default-clause-answer g c = sym c.in_default.ensures

pub finish-requires : goal.finish-requires
finish-requires g c =
    record { ready = part_ready c.args.system.now (g.W.Words.held c.args.work.now) c.args.local.now c.requires.ready c.args.number c.in-Some.i (sym c.in-Some.ensures) c.in_ok-part.part c.in_ok-part.ensures.local }

pub returns-in_err-finish-clause-part : goal.returns-in_err-finish-clause-part
returns-in_err-finish-clause-part g c =
    part_fails c.args.system.now (g.W.Words.held c.args.work.now) c.args.local.now c.requires.ready c.args.number c.in-Some.i (sym c.in-Some.ensures) (g.W.Words.held c.finish.new.work) c.in_ok-part.part c.finish.new.local c.in_ok-part.ensures.start c.in_err-finish.field-0.0 c.in_err-finish.ensures c.from_residual-in_err-finish.result (err_is c.from_residual-in_err-finish.result c.in_err-finish.field-0.0 c.from_residual-in_err-finish.ensures)

pub returns-in-Need-clause-part : goal.returns-in-Need-clause-part
returns-in-Need-clause-part g c =
    part_waits c.args.system.now (g.W.Words.held c.args.work.now) c.args.local.now c.requires.ready c.args.number c.in-Some.i (sym c.in-Some.ensures) (g.W.Words.held c.finish.new.work) c.in_ok-part.part c.finish.new.local c.in_ok-part.ensures.start c.in-Need.field-0 (subst (λ (t : CircTurn). Advances (g.W.Words.held c.args.work.now) (g.W.Words.held c.finish.new.work) c.in_ok-part.part c.finish.new.local (Ok t)) c.in-Need.is c.in_ok-finish.ensures)

pub returns-in-Need-clause-answer : goal.returns-in-Need-clause-answer
returns-in-Need-clause-answer g c =
    part_waited c.args.system.now (g.W.Words.held c.args.work.now) c.args.local.now c.requires.ready c.args.number c.in-Some.i (sym c.in-Some.ensures) (g.W.Words.held c.finish.new.work) c.in_ok-part.part c.finish.new.local c.in_ok-part.ensures.start c.in-Need.field-0 (subst (λ (t : CircTurn). Advances (g.W.Words.held c.args.work.now) (g.W.Words.held c.finish.new.work) c.in_ok-part.part c.finish.new.local (Ok t)) c.in-Need.is c.in_ok-finish.ensures)

pub returns-in_err-take_over-in-Closed-clause-part : goal.returns-in_err-take_over-in-Closed-clause-part
returns-in_err-take_over-in-Closed-clause-part g c =
    part_taken c.args.system.now (g.W.Words.held c.args.work.now) c.args.local.now c.requires.ready c.args.number c.in-Some.i (sym c.in-Some.ensures) (g.W.Words.held c.finish.new.work) c.in_ok-part.part c.finish.new.local c.in_ok-part.ensures.start c.take_over.new.local
    (subst (λ (t : CircTurn). Advances (g.W.Words.held c.args.work.now) (g.W.Words.held c.finish.new.work) c.in_ok-part.part c.finish.new.local (Ok t)) c.in-Closed.is c.in_ok-finish.ensures)
    c.take_over.ensures.takes.start c.take_over.ensures.takes.members c.take_over.ensures.takes.some c.take_over.ensures.takes.kept c.from_residual-in_err-take_over-in-Closed.result (err_memory c.from_residual-in_err-take_over-in-Closed.result (err_is c.from_residual-in_err-take_over-in-Closed.result Memory c.from_residual-in_err-take_over-in-Closed.ensures))

pub returns-clause-part : goal.returns-clause-part
returns-clause-part g c =
    part_taken c.args.system.now (g.W.Words.held c.args.work.now) c.args.local.now c.requires.ready c.args.number c.in-Some.i (sym c.in-Some.ensures) (g.W.Words.held c.finish.new.work) c.in_ok-part.part c.finish.new.local c.in_ok-part.ensures.start c.take_over.new.local
    (subst (λ (t : CircTurn). Advances (g.W.Words.held c.args.work.now) (g.W.Words.held c.finish.new.work) c.in_ok-part.part c.finish.new.local (Ok t)) c.in-Closed.is c.in_ok-finish.ensures)
    c.take_over.ensures.takes.start c.take_over.ensures.takes.members c.take_over.ensures.takes.some c.take_over.ensures.takes.kept (Ok true) (ok_memory true (Ok true) refl)

pub returns-clause-answer : goal.returns-clause-answer
returns-clause-answer g c =
    part_done c.args.system.now (g.W.Words.held c.args.work.now) c.args.local.now c.requires.ready c.args.number c.in-Some.i (sym c.in-Some.ensures) (g.W.Words.held c.finish.new.work) c.in_ok-part.part c.finish.new.local c.in_ok-part.ensures.start c.take_over.new.local
    (subst (λ (t : CircTurn). Advances (g.W.Words.held c.args.work.now) (g.W.Words.held c.finish.new.work) c.in_ok-part.part c.finish.new.local (Ok t)) c.in-Closed.is c.in_ok-finish.ensures)
    c.take_over.ensures.takes.members c.in_ok-take_over-in-Closed.ensures.sealed

pub returns-in_err-part-clause-part : goal.returns-in_err-part-clause-part
returns-in_err-part-clause-part g c =
    parts_none c.args.system.now (g.W.Words.held c.args.work.now) c.args.local.now c.args.local.now c.requires.ready (with_itself c.args.system.now (g.W.Words.held c.args.work.now) c.args.local.now c.requires.ready) (same_itself c.args.local.now.members.entries) c.from_residual.result (err_memory c.from_residual.result (err_is c.from_residual.result Memory c.from_residual.ensures))
