use Rattle.std.proofs.Common.{Ok}
use Rattle.circular_eval.specs.declared.advancing.CircFault.TheVariants.{Memory}
use Rattle.circular_eval.proofs.Going.{ready_then, with_then}
use Rattle.circular_eval.proofs.Parting.{parts_fail, turn_fails, turn_looked, turn_refused, turns_then}
use Rattle.circular_eval.proofs.Passing.{goes_looked}
use Rattle.circular_eval.proofs.Raised.{err_is}
use Rattle.circular_eval.proofs.advancing.go_on.Goals as goal

pub finish-requires : goal.finish-requires
finish-requires g c = record { ready = c.requires.ready }

pub returns-in_err-turn : goal.returns-in_err-turn
returns-in_err-turn g c =
    turn_fails (g.W.Words.held c.args.work.now) (g.W.Words.held c.finish.new.work) c.args.local.now c.finish.new.local c.in_err-turn.field-0.0 c.in_err-turn.ensures c.from_residual.result (err_is c.from_residual.result c.in_err-turn.field-0.0 c.from_residual.ensures)

pub returns-then-eq : goal.returns-then-eq
returns-then-eq g c = c.in_ok-turn.ensures

pub returns-in_err-closed : goal.returns-in_err-closed
returns-in_err-closed g c =
    turn_refused (g.W.Words.held c.args.work.now) (g.W.Words.held c.finish.new.work) c.args.local.now c.finish.new.local c.closed.new.self c.finish.ensures.goes c.closed.ensures.start c.closed.ensures.members c.closed.ensures.need c.closed.ensures.saved c.from_residual-in_err-closed.result (err_is c.from_residual-in_err-closed.result Memory c.from_residual-in_err-closed.ensures)

pub returns-then-is_empty : goal.returns-then-is_empty
returns-then-is_empty g c =
    turn_looked (g.W.Words.held c.args.work.now) (g.W.Words.held c.finish.new.work) c.args.local.now c.finish.new.local c.closed.new.self (Ok c.in_ok-turn.turn) c.in_ok-turn.ensures c.closed.ensures.start c.closed.ensures.members c.closed.ensures.need c.closed.ensures.saved

pub seal_closed-requires : goal.seal_closed-requires
seal_closed-requires g c =
    record { ready = ready_then c.args.system.now (g.W.Words.held c.args.work.now) (g.W.Words.held c.finish.new.work) c.args.local.now c.closed.new.self c.requires.ready (goes_looked (g.W.Words.held c.args.work.now) (g.W.Words.held c.finish.new.work) c.args.local.now c.finish.new.local c.closed.new.self c.closed.ensures.start c.closed.ensures.members c.closed.ensures.need c.closed.ensures.saved c.finish.ensures.goes) }

pub returns-in_err-seal_closed : goal.returns-in_err-seal_closed
returns-in_err-seal_closed g c =
    parts_fail (g.W.Words.held c.args.work.now) (g.W.Words.held c.finish.new.work) (g.W.Words.held c.seal_closed.new.work) c.args.local.now c.closed.new.self c.seal_closed.new.local (goes_looked (g.W.Words.held c.args.work.now) (g.W.Words.held c.finish.new.work) c.args.local.now c.finish.new.local c.closed.new.self c.closed.ensures.start c.closed.ensures.members c.closed.ensures.need c.closed.ensures.saved c.finish.ensures.goes) c.in_err-seal_closed.field-0.0 c.in_err-seal_closed.ensures.parts c.from_residual-in_err-seal_closed.result (err_is c.from_residual-in_err-seal_closed.result c.in_err-seal_closed.field-0.0 c.from_residual-in_err-seal_closed.ensures)

pub finish-requires-2 : goal.finish-requires-2
finish-requires-2 g c =
    let looked = goes_looked (g.W.Words.held c.args.work.now) (g.W.Words.held c.finish.new.work) c.args.local.now c.finish.new.local c.closed.new.self c.closed.ensures.start c.closed.ensures.members c.closed.ensures.need c.closed.ensures.saved c.finish.ensures.goes in
    record { ready = ready_then c.args.system.now (g.W.Words.held c.finish.new.work) (g.W.Words.held c.seal_closed.new.work) c.closed.new.self c.seal_closed.new.local (ready_then c.args.system.now (g.W.Words.held c.args.work.now) (g.W.Words.held c.finish.new.work) c.args.local.now c.closed.new.self c.requires.ready looked) c.seal_closed.ensures.parts.goes }

pub returns : goal.returns
returns g c =
    let looked = goes_looked (g.W.Words.held c.args.work.now) (g.W.Words.held c.finish.new.work) c.args.local.now c.finish.new.local c.closed.new.self c.closed.ensures.start c.closed.ensures.members c.closed.ensures.need c.closed.ensures.saved c.finish.ensures.goes in
    turns_then (g.W.Words.held c.args.work.now) (g.W.Words.held c.seal_closed.new.work) (g.W.Words.held c.finish-2.new.work) c.args.local.now c.seal_closed.new.local c.finish-2.new.local (with_then (g.W.Words.held c.args.work.now) (g.W.Words.held c.finish.new.work) (g.W.Words.held c.seal_closed.new.work) c.args.local.now c.closed.new.self c.seal_closed.new.local looked c.seal_closed.ensures.parts.goes) c.finish-2.result c.finish-2.ensures
