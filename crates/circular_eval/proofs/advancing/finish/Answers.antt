use Rattle.std.proofs.Common.{List, Option, Ok, map, sym, subst}
use Rattle.equation_law.specs.declared.coding.Instance.{Instance as CodedInstance}
use Rattle.memo_cells.specs.declared.keys.Slot.{Slot}
use Rattle.memo_cells.specs.Standing.{MaySeal}
use Rattle.memo_cells.specs.Steps.{AreSealed}
use Rattle.memo_cells.specs.Working.{program_at}
use Rattle.circular_eval.specs.declared.advancing.CircFault.TheVariants.{Memory}
use Rattle.circular_eval.specs.Visiting.{Closes}
use Rattle.circular_eval.proofs.Ending.{on_closed, on_fault, on_goes, on_late, on_may, on_need, on_refused}
use Rattle.circular_eval.proofs.Going.{ready_then}
use Rattle.circular_eval.proofs.Raised.{err_is}
use Rattle.circular_eval.proofs.advancing.finish.Goals as goal

pub begin-requires : goal.begin-requires
begin-requires g c =
    record { ready = c.requires.ready }

pub returns-in_err-begin : goal.returns-in_err-begin
returns-in_err-begin g c =
    on_refused (g.W.Words.held c.args.work.now) (g.W.Words.held c.begin.new.work) c.args.local.now c.begin.new.local c.in_err-begin.field-0.0 c.in_err-begin.ensures c.from_residual.result (err_is c.from_residual.result c.in_err-begin.field-0.0 c.from_residual.ensures)

pub close-requires : goal.close-requires
close-requires g c =
    record { ready = ready_then c.args.system.now (g.W.Words.held c.args.work.now) (g.W.Words.held c.begin.new.work) c.args.local.now c.begin.new.local c.requires.ready c.begin.ensures.goes }

pub returns-in_err-need : goal.returns-in_err-need
returns-in_err-need g c =
    on_fault (g.W.Words.held c.args.work.now) (g.W.Words.held c.begin.new.work) (g.W.Words.held c.close.new.work) c.args.local.now c.begin.new.local c.close.new.local c.begin.ensures.goes c.in_err-need.field-0.0 c.in_err-need.ensures c.from_residual-in_err-need.result (err_is c.from_residual-in_err-need.result c.in_err-need.field-0.0 c.from_residual-in_err-need.ensures)

pub returns-in-Some : goal.returns-in-Some
returns-in-Some g c =
    on_need (g.W.Words.held c.args.work.now) (g.W.Words.held c.begin.new.work) (g.W.Words.held c.close.new.work) c.args.local.now c.begin.new.local c.close.new.local c.begin.ensures.goes c.in_ok-begin.ensures.some c.in-Some.need (subst (λ (o : Option CodedInstance). Closes (g.W.Words.held c.begin.new.work) (g.W.Words.held c.close.new.work) c.begin.new.local c.close.new.local (Ok o)) c.in-Some.is c.in_ok-need.ensures)

pub returns-in_err-slots : goal.returns-in_err-slots
returns-in_err-slots g c =
    on_late (g.W.Words.held c.args.work.now) (g.W.Words.held c.begin.new.work) (g.W.Words.held c.close.new.work) c.args.local.now c.begin.new.local c.close.new.local c.begin.ensures.goes (subst (λ (o : Option CodedInstance). Closes (g.W.Words.held c.begin.new.work) (g.W.Words.held c.close.new.work) c.begin.new.local c.close.new.local (Ok o)) c.in_default.is c.in_ok-need.ensures) c.from_residual-in_err-slots.result (err_is c.from_residual-in_err-slots.result Memory c.from_residual-in_err-slots.ensures)

pub seal-requires-clause-own : goal.seal-requires-clause-own
seal-requires-clause-own g c =
    (on_goes (g.W.Words.held c.args.work.now) (g.W.Words.held c.begin.new.work) (g.W.Words.held c.close.new.work) c.args.local.now c.begin.new.local c.close.new.local c.begin.ensures.goes c.args.system.now c.requires.ready c.in_ok-begin.ensures.some (subst (λ (o : Option CodedInstance). Closes (g.W.Words.held c.begin.new.work) (g.W.Words.held c.close.new.work) c.begin.new.local c.close.new.local (Ok o)) c.in_default.is c.in_ok-need.ensures)).on.own

pub seal-requires-clause-may : goal.seal-requires-clause-may
seal-requires-clause-may g c =
    subst (λ (l : List Slot). MaySeal (program_at (g.W.Words.held c.close.new.work)) (g.W.Words.held c.close.new.work).frame (g.W.Words.held c.close.new.work).view (map (λ x. x.0) l)) (sym c.deref.ensures.value) (on_may (g.W.Words.held c.args.work.now) (g.W.Words.held c.begin.new.work) (g.W.Words.held c.close.new.work) c.args.local.now c.begin.new.local c.close.new.local c.begin.ensures.goes c.args.system.now c.requires.ready c.in_ok-begin.ensures.some (subst (λ (o : Option CodedInstance). Closes (g.W.Words.held c.begin.new.work) (g.W.Words.held c.close.new.work) c.begin.new.local c.close.new.local (Ok o)) c.in_default.is c.in_ok-need.ensures) c.in_ok-slots.slots.items c.in_ok-slots.ensures)

pub returns : goal.returns
returns g c =
    on_closed (g.W.Words.held c.args.work.now) (g.W.Words.held c.begin.new.work) (g.W.Words.held c.close.new.work) c.args.local.now c.begin.new.local c.close.new.local c.begin.ensures.goes c.args.system.now c.requires.ready c.in_ok-begin.ensures.some (subst (λ (o : Option CodedInstance). Closes (g.W.Words.held c.begin.new.work) (g.W.Words.held c.close.new.work) c.begin.new.local c.close.new.local (Ok o)) c.in_default.is c.in_ok-need.ensures) c.in_ok-slots.slots.items c.in_ok-slots.ensures (g.W.Words.held c.seal.new.self) c.seal.ensures.on (subst (λ (l : List Slot). AreSealed (g.W.Words.held c.close.new.work).view (g.W.Words.held c.seal.new.self).view (map (λ x. x.0) l)) c.deref.ensures.value c.seal.ensures.sealed)
