use Rattle.std.proofs.Common.{Ok, subst}
use Rattle.circular_eval.specs.declared.visiting.Visited.{Visited}
use Rattle.circular_eval.specs.Visiting.{Passes}
use Rattle.circular_eval.proofs.Ending.{close_fault, close_less, close_need, close_same}
use Rattle.circular_eval.proofs.Going.{ready_then, with_itself, with_then}
use Rattle.circular_eval.proofs.Raised.{err_is}
use Rattle.circular_eval.proofs.advancing.repeat.Goals as goal

pub passes-init : goal.passes-init
passes-init g c =
    with_itself c.args.system.now (g.W.Words.held c.args.work.now) c.args.local.now c.requires.ready

pub confirm-requires : goal.confirm-requires
confirm-requires g c =
    record { ready = ready_then c.args.system.now (g.W.Words.held c.args.work.now) (g.W.Words.held c.passes.work) c.args.local.now c.passes.local c.requires.ready c.passes.invariant }

pub returns-in_err-need : goal.returns-in_err-need
returns-in_err-need g c =
    close_fault (g.W.Words.held c.args.work.now) (g.W.Words.held c.passes.work) (g.W.Words.held c.confirm.new.work) c.args.local.now c.passes.local c.confirm.new.local c.passes.invariant c.in_err-need.field-0.0 c.in_err-need.ensures c.from_residual.result (err_is c.from_residual.result c.in_err-need.field-0.0 c.from_residual.ensures)

pub returns-in-Need : goal.returns-in-Need
returns-in-Need g c =
    close_need (g.W.Words.held c.args.work.now) (g.W.Words.held c.passes.work) (g.W.Words.held c.confirm.new.work) c.args.local.now c.passes.local c.confirm.new.local c.passes.invariant c.in-Need.need (subst (λ (v : Visited). Passes (g.W.Words.held c.passes.work) (g.W.Words.held c.confirm.new.work) c.passes.local c.confirm.new.local (Ok v)) c.in-Need.is c.in_ok-need.ensures)

pub returns-in-Same : goal.returns-in-Same
returns-in-Same g c =
    close_same (g.W.Words.held c.args.work.now) (g.W.Words.held c.passes.work) (g.W.Words.held c.confirm.new.work) c.args.local.now c.passes.local c.confirm.new.local c.passes.invariant (subst (λ (v : Visited). Passes (g.W.Words.held c.passes.work) (g.W.Words.held c.confirm.new.work) c.passes.local c.confirm.new.local (Ok v)) c.in-Same.is c.in_ok-need.ensures)

pub passes-smaller : goal.passes-smaller
passes-smaller g c =
    close_less (g.W.Words.held c.args.work.now) (g.W.Words.held c.passes.work) (g.W.Words.held c.confirm.new.work) c.args.local.now c.passes.local c.confirm.new.local c.passes.invariant (subst (λ (v : Visited). Passes (g.W.Words.held c.passes.work) (g.W.Words.held c.confirm.new.work) c.passes.local c.confirm.new.local (Ok v)) c.in-Changed.is c.in_ok-need.ensures)

pub passes-preserved : goal.passes-preserved
passes-preserved g c =
    with_then (g.W.Words.held c.args.work.now) (g.W.Words.held c.passes.work) (g.W.Words.held c.confirm.new.work) c.args.local.now c.passes.local c.confirm.new.local c.passes.invariant c.confirm.ensures.goes
