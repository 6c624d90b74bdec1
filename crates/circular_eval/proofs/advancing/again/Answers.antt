use Rattle.std.proofs.Common.{Ok, subst}
use Rattle.circular_eval.specs.declared.visiting.Visited.{Visited}
use Rattle.circular_eval.specs.declared.visiting.Visited.TheVariants.{Changed}
use Rattle.circular_eval.specs.Visiting.{Visits}
use Rattle.circular_eval.proofs.Ending.{again_changed, again_fault, again_needs, again_none, again_rests}
use Rattle.circular_eval.proofs.Raised.{err_is}
use Rattle.circular_eval.proofs.advancing.again.Goals as goal

pub returns-in_default : goal.returns-in_default
returns-in_default g c = again_none c.args.system.now (g.W.Words.held c.args.work.now) c.args.local.now c.requires.ready

pub visit-requires : goal.visit-requires
visit-requires g c = record { ready = c.requires.ready }

pub returns-in_err-need : goal.returns-in_err-need
returns-in_err-need g c =
    again_fault (g.W.Words.held c.args.work.now) (g.W.Words.held c.visit.new.work) c.args.local.now c.visit.new.local c.in-Some.number c.in_err-need.field-0.0 c.in_err-need.ensures c.from_residual.result (err_is c.from_residual.result c.in_err-need.field-0.0 c.from_residual.ensures)

pub returns-in-Need : goal.returns-in-Need
returns-in-Need g c =
    again_needs (g.W.Words.held c.args.work.now) (g.W.Words.held c.visit.new.work) c.args.local.now c.visit.new.local c.in-Some.number c.in-Need.need (subst (λ (v : Visited). Visits (g.W.Words.held c.args.work.now) (g.W.Words.held c.visit.new.work) c.args.local.now c.visit.new.local c.in-Some.number (Ok v)) c.in-Need.is c.in_ok-need.ensures)

pub returns-in-Changed : goal.returns-in-Changed
returns-in-Changed g c =
    again_changed (g.W.Words.held c.args.work.now) (g.W.Words.held c.visit.new.work) c.args.local.now c.visit.new.local c.in-Some.number Changed (subst (λ (v : Visited). Visits (g.W.Words.held c.args.work.now) (g.W.Words.held c.visit.new.work) c.args.local.now c.visit.new.local c.in-Some.number (Ok v)) c.in-Changed.is c.in_ok-need.ensures)

pub returns-in-Same : goal.returns-in-Same
returns-in-Same g c =
    again_rests (g.W.Words.held c.args.work.now) (g.W.Words.held c.visit.new.work) c.args.local.now c.visit.new.local c.rest.new.self c.in-Some.number (subst (λ (v : Visited). Visits (g.W.Words.held c.args.work.now) (g.W.Words.held c.visit.new.work) c.args.local.now c.visit.new.local c.in-Some.number (Ok v)) c.in-Same.is c.in_ok-need.ensures) c.rest.ensures.start c.rest.ensures.members c.rest.ensures.need c.rest.ensures.saved
