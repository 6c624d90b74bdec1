use Rattle.std.proofs.Common.{Ok, Option, subst}
use Rattle.equation_law.specs.declared.coding.Instance.{Instance as CodedInstance}
use Rattle.circular_eval.specs.Visiting.{GoesAgain}
use Rattle.circular_eval.proofs.Ending.{close_again, close_early, close_then}
use Rattle.circular_eval.proofs.Going.{ready_then}
use Rattle.circular_eval.proofs.Raised.{err_is}
use Rattle.circular_eval.proofs.advancing.close.Goals as goal

pub again-requires : goal.again-requires
again-requires g c =
    record { ready = c.requires.ready }

pub returns-in_err-need : goal.returns-in_err-need
returns-in_err-need g c =
    close_early (g.W.Words.held c.args.work.now) (g.W.Words.held c.again.new.work) c.args.local.now c.again.new.local c.in_err-need.field-0.0 c.in_err-need.ensures c.from_residual.result (err_is c.from_residual.result c.in_err-need.field-0.0 c.from_residual.ensures)

pub returns-in-Some : goal.returns-in-Some
returns-in-Some g c =
    close_again (g.W.Words.held c.args.work.now) (g.W.Words.held c.again.new.work) c.args.local.now c.again.new.local c.in-Some.need (subst (λ (o : Option CodedInstance). GoesAgain (g.W.Words.held c.args.work.now) (g.W.Words.held c.again.new.work) c.args.local.now c.again.new.local (Ok o)) c.in-Some.is c.in_ok-need.ensures)

pub repeat-requires : goal.repeat-requires
repeat-requires g c =
    record { ready = ready_then c.args.system.now (g.W.Words.held c.args.work.now) (g.W.Words.held c.again.new.work) c.args.local.now c.again.new.local c.requires.ready c.again.ensures.goes }

pub returns : goal.returns
returns g c =
    close_then (g.W.Words.held c.args.work.now) (g.W.Words.held c.again.new.work) (g.W.Words.held c.repeat.new.work) c.args.local.now c.again.new.local c.repeat.new.local c.again.ensures.goes c.repeat.result c.repeat.ensures
