use Rattle.std.proofs.Common.{Option, Ok, Some, ap, subst, ◌∙◌}
use Rattle.circular_eval.specs.declared.visiting.Visited.{Visited}
use Rattle.circular_eval.specs.declared.visiting.Visited.TheVariants.{Changed, Need, Same}
use Rattle.circular_eval.specs.Visiting.{KeepsSaved, Steps}
use Rattle.circular_eval.proofs.Passing.{ready_taken, taken_saved, visit_begins, visit_changed, visit_fault, visit_from, visit_grows, visit_less, visit_need, visit_ready, visit_rests, visit_same}
use Rattle.circular_eval.proofs.Raised.{err_is}
use Rattle.circular_eval.proofs.visiting.visit.Goals as goal

pub steps-init : goal.steps-init
steps-init g c =
    (visit_begins c.args.system.now (g.W.Words.held c.args.work.now) c.take_saved-saved.new.self (ready_taken c.args.system.now (g.W.Words.held c.args.work.now) c.args.local.now c.take_saved-saved.new.self c.requires.ready c.take_saved-saved.ensures.start c.take_saved-saved.ensures.members c.take_saved-saved.ensures.need c.take_saved-saved.ensures.none), taken_saved c.args.system.now (g.W.Words.held c.args.work.now) c.args.local.now c.take_saved-saved.new.self c.requires.ready c.take_saved-saved.ensures.members c.take_saved-saved.result c.take_saved-saved.ensures.saved)

pub step-requires-clause-ready : goal.step-requires-clause-ready
step-requires-clause-ready g c =
    visit_ready c.args.system.now (g.W.Words.held c.args.work.now) (g.W.Words.held c.steps.work) c.take_saved-saved.new.self c.steps.local c.steps.grown (ready_taken c.args.system.now (g.W.Words.held c.args.work.now) c.args.local.now c.take_saved-saved.new.self c.requires.ready c.take_saved-saved.ensures.start c.take_saved-saved.ensures.members c.take_saved-saved.ensures.need c.take_saved-saved.ensures.none) c.steps.invariant.0

pub step-requires-clause-saved : goal.step-requires-clause-saved
step-requires-clause-saved g c =
    c.steps.invariant.1

pub returns-in_err-step : goal.returns-in_err-step
returns-in_err-step g c =
    visit_from (g.W.Words.held c.args.work.now) (g.W.Words.held c.step.new.work) c.args.local.now c.take_saved-saved.new.self c.step.new.local c.args.number c.from_residual.result c.take_saved-saved.ensures.start c.take_saved-saved.ensures.members c.take_saved-saved.ensures.due
    (visit_fault (g.W.Words.held c.args.work.now) (g.W.Words.held c.steps.work) (g.W.Words.held c.step.new.work) c.take_saved-saved.new.self c.steps.local c.step.new.local c.args.number c.steps.grown c.steps.invariant.0 c.in_err-step.field-0.0 c.in_err-step.ensures.steps c.from_residual.result (err_is c.from_residual.result c.in_err-step.field-0.0 c.from_residual.ensures))

pub returns-in-Need : goal.returns-in-Need
returns-in-Need g c =
    visit_from (g.W.Words.held c.args.work.now) (g.W.Words.held c.step.new.work) c.args.local.now c.take_saved-saved.new.self c.keep.new.self c.args.number (Ok (Need c.in-Need.need)) c.take_saved-saved.ensures.start c.take_saved-saved.ensures.members c.take_saved-saved.ensures.due
    (visit_need (g.W.Words.held c.args.work.now) (g.W.Words.held c.steps.work) (g.W.Words.held c.step.new.work) c.take_saved-saved.new.self c.steps.local c.step.new.local c.args.number c.steps.grown c.steps.invariant.0 c.args.system.now (ready_taken c.args.system.now (g.W.Words.held c.args.work.now) c.args.local.now c.take_saved-saved.new.self c.requires.ready c.take_saved-saved.ensures.start c.take_saved-saved.ensures.members c.take_saved-saved.ensures.need c.take_saved-saved.ensures.none) c.in-Need.need (subst (λ (o : Option Visited). Steps (g.W.Words.held c.steps.work) (g.W.Words.held c.step.new.work) c.steps.local c.step.new.local c.args.number (Ok o)) (c.in-Some.is ∙ ap (λ (v : Visited). Some v) c.in-Need.is) c.in_ok-step.ensures.steps) c.keep.new.self c.step.new.saved c.keep.ensures.start c.keep.ensures.members c.keep.ensures.need c.keep.ensures.saved
    (subst (λ (o : Option Visited). KeepsSaved c.args.system.now (g.W.Words.held c.step.new.work) c.step.new.local c.step.new.saved (Ok o)) (c.in-Some.is ∙ ap (λ (v : Visited). Some v) c.in-Need.is) c.in_ok-step.ensures.saved))

pub returns-in-Changed : goal.returns-in-Changed
returns-in-Changed g c =
    visit_from (g.W.Words.held c.args.work.now) (g.W.Words.held c.step.new.work) c.args.local.now c.take_saved-saved.new.self c.step.new.local c.args.number (Ok Changed) c.take_saved-saved.ensures.start c.take_saved-saved.ensures.members c.take_saved-saved.ensures.due
    (visit_changed (g.W.Words.held c.args.work.now) (g.W.Words.held c.steps.work) (g.W.Words.held c.step.new.work) c.take_saved-saved.new.self c.steps.local c.step.new.local c.args.number c.steps.grown c.steps.invariant.0 (subst (λ (o : Option Visited). Steps (g.W.Words.held c.steps.work) (g.W.Words.held c.step.new.work) c.steps.local c.step.new.local c.args.number (Ok o)) (c.in-Some.is ∙ ap (λ (v : Visited). Some v) c.in-Changed.is) c.in_ok-step.ensures.steps))

pub returns-then-not-grown : goal.returns-then-not-grown
returns-then-not-grown g c =
    visit_from (g.W.Words.held c.args.work.now) (g.W.Words.held c.step.new.work) c.args.local.now c.take_saved-saved.new.self c.step.new.local c.args.number (Ok Same) c.take_saved-saved.ensures.start c.take_saved-saved.ensures.members c.take_saved-saved.ensures.due
    (visit_same (g.W.Words.held c.args.work.now) (g.W.Words.held c.steps.work) (g.W.Words.held c.step.new.work) c.take_saved-saved.new.self c.steps.local c.step.new.local c.args.number c.steps.grown c.steps.invariant.0 c.if-not-grown.true (subst (λ (o : Option Visited). Steps (g.W.Words.held c.steps.work) (g.W.Words.held c.step.new.work) c.steps.local c.step.new.local c.args.number (Ok o)) (c.in-Some.is ∙ ap (λ (v : Visited). Some v) c.in-Same.is) c.in_ok-step.ensures.steps))

pub returns-in-Same : goal.returns-in-Same
returns-in-Same g c =
    visit_from (g.W.Words.held c.args.work.now) (g.W.Words.held c.step.new.work) c.args.local.now c.take_saved-saved.new.self c.rest.new.self c.args.number (Ok Changed) c.take_saved-saved.ensures.start c.take_saved-saved.ensures.members c.take_saved-saved.ensures.due
    (visit_rests (g.W.Words.held c.args.work.now) (g.W.Words.held c.steps.work) (g.W.Words.held c.step.new.work) c.take_saved-saved.new.self c.steps.local c.step.new.local c.args.number c.steps.grown c.steps.invariant.0 c.if-not-grown.false (subst (λ (o : Option Visited). Steps (g.W.Words.held c.steps.work) (g.W.Words.held c.step.new.work) c.steps.local c.step.new.local c.args.number (Ok o)) (c.in-Some.is ∙ ap (λ (v : Visited). Some v) c.in-Same.is) c.in_ok-step.ensures.steps) c.rest.new.self c.rest.ensures.start c.rest.ensures.members c.rest.ensures.need c.rest.ensures.saved)

pub steps-smaller : goal.steps-smaller
steps-smaller g c =
    visit_less (g.W.Words.held c.args.work.now) (g.W.Words.held c.steps.work) (g.W.Words.held c.step.new.work) c.take_saved-saved.new.self c.steps.local c.step.new.local c.args.number c.steps.grown c.steps.invariant.0 (subst (λ (o : Option Visited). Steps (g.W.Words.held c.steps.work) (g.W.Words.held c.step.new.work) c.steps.local c.step.new.local c.args.number (Ok o)) c.in-None.is c.in_ok-step.ensures.steps)

pub steps-preserved : goal.steps-preserved
steps-preserved g c =
    (visit_grows (g.W.Words.held c.args.work.now) (g.W.Words.held c.steps.work) (g.W.Words.held c.step.new.work) c.take_saved-saved.new.self c.steps.local c.step.new.local c.args.number c.steps.grown c.steps.invariant.0 (subst (λ (o : Option Visited). Steps (g.W.Words.held c.steps.work) (g.W.Words.held c.step.new.work) c.steps.local c.step.new.local c.args.number (Ok o)) c.in-None.is c.in_ok-step.ensures.steps), subst (λ (o : Option Visited). KeepsSaved c.args.system.now (g.W.Words.held c.step.new.work) c.step.new.local c.step.new.saved (Ok o)) c.in-None.is c.in_ok-step.ensures.saved)
