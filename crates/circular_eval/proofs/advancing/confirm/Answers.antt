use Rattle.std.proofs.Common.{ℕ, Option, ◌+◌, ◌<◌, ◌≤◌, Ok, ap, length, rules, sym, subst, ◌∙◌}
use Rattle.std.specs.Option.{unwrap_or}
use Rattle.circular_eval.specs.declared.visiting.Visited.{Visited}
use Rattle.circular_eval.specs.Visiting.{Visits}
use Rattle.circular_eval.proofs.Passing.{looked_less, next_less, none_due, pass_begins, pass_changed, pass_fault, pass_looked, pass_need, pass_next, pass_ready, pass_stays, pass_whole, popped_less, some_due}
use Rattle.circular_eval.proofs.Raised.{err_is}
use Rattle.circular_eval.proofs.advancing.confirm.Goals as goal

pub pass-init : goal.pass-init
pass-init g c =
    pass_begins c.args.system.now (g.W.Words.held c.args.work.now) c.args.local.now c.requires.ready

pub visit-requires : goal.visit-requires
visit-requires g c =
    record { ready = pass_ready c.args.system.now (g.W.Words.held c.args.work.now) (g.W.Words.held c.pass.work) c.args.local.now c.next-due.new.self c.pass.confirmed c.requires.ready (pass_looked (g.W.Words.held c.args.work.now) (g.W.Words.held c.pass.work) c.args.local.now c.pass.local c.next-due.new.self c.pass.confirmed c.next-due.ensures.start c.next-due.ensures.members c.next-due.ensures.need c.next-due.ensures.saved c.pass.invariant) }

pub returns-in_err-need : goal.returns-in_err-need
returns-in_err-need g c =
    pass_fault (g.W.Words.held c.args.work.now) (g.W.Words.held c.pass.work) (g.W.Words.held c.visit.new.work) c.args.local.now c.next-due.new.self c.visit.new.local c.pass.confirmed c.unwrap_or-number.result (pass_looked (g.W.Words.held c.args.work.now) (g.W.Words.held c.pass.work) c.args.local.now c.pass.local c.next-due.new.self c.pass.confirmed c.next-due.ensures.start c.next-due.ensures.members c.next-due.ensures.need c.next-due.ensures.saved c.pass.invariant) c.in_err-need.field-0.0 c.in_err-need.ensures c.from_residual.result (err_is c.from_residual.result c.in_err-need.field-0.0 c.from_residual.ensures)

pub returns-in-Need : goal.returns-in-Need
returns-in-Need g c =
    pass_need (g.W.Words.held c.args.work.now) (g.W.Words.held c.pass.work) (g.W.Words.held c.visit.new.work) c.args.local.now c.next-due.new.self c.visit.new.local c.pass.confirmed c.unwrap_or-number.result (pass_looked (g.W.Words.held c.args.work.now) (g.W.Words.held c.pass.work) c.args.local.now c.pass.local c.next-due.new.self c.pass.confirmed c.next-due.ensures.start c.next-due.ensures.members c.next-due.ensures.need c.next-due.ensures.saved c.pass.invariant) c.in-Need.need (subst (λ (v : Visited). Visits (g.W.Words.held c.pass.work) (g.W.Words.held c.visit.new.work) c.next-due.new.self c.visit.new.local c.unwrap_or-number.result (Ok v)) c.in-Need.is c.in_ok-need.ensures)

pub returns-in-Changed : goal.returns-in-Changed
returns-in-Changed g c =
    pass_changed (g.W.Words.held c.args.work.now) (g.W.Words.held c.pass.work) (g.W.Words.held c.visit.new.work) c.args.local.now c.next-due.new.self c.visit.new.local c.pass.confirmed c.unwrap_or-number.result (pass_looked (g.W.Words.held c.args.work.now) (g.W.Words.held c.pass.work) c.args.local.now c.pass.local c.next-due.new.self c.pass.confirmed c.next-due.ensures.start c.next-due.ensures.members c.next-due.ensures.need c.next-due.ensures.saved c.pass.invariant) (subst (λ (v : Visited). Visits (g.W.Words.held c.pass.work) (g.W.Words.held c.visit.new.work) c.next-due.new.self c.visit.new.local c.unwrap_or-number.result (Ok v)) c.in-Changed.is c.in_ok-need.ensures)

pub pass-smaller-then-is_some : goal.pass-smaller-then-is_some
pass-smaller-then-is_some g c =
    let st = (subst (λ (v : Visited). Visits (g.W.Words.held c.pass.work) (g.W.Words.held c.visit.new.work) c.next-due.new.self c.visit.new.local c.unwrap_or-number.result (Ok v)) c.in-Same.is c.in_ok-need.ensures) in
    looked_less c.pass.local c.next-due.new.self c.pop.new.self c.pass.confirmed c.pass.confirmed c.next-due.ensures.members c.next-due.ensures.count
    (popped_less c.next-due.new.self c.visit.new.local c.pop.new.self c.pass.confirmed st.answer.members st.answer.due c.pop.ensures.members (some_due c.next-due.result c.next-due.ensures.some (sym c.is_some.ensures ∙ c.if-is_some.true)) c.pop.ensures.fewer)

pub pass-preserved-then-is_some : goal.pass-preserved-then-is_some
pass-preserved-then-is_some g c =
    let st = (subst (λ (v : Visited). Visits (g.W.Words.held c.pass.work) (g.W.Words.held c.visit.new.work) c.next-due.new.self c.visit.new.local c.unwrap_or-number.result (Ok v)) c.in-Same.is c.in_ok-need.ensures) in
    pass_looked (g.W.Words.held c.args.work.now) (g.W.Words.held c.visit.new.work) c.args.local.now c.visit.new.local c.pop.new.self c.pass.confirmed c.pop.ensures.start c.pop.ensures.members c.pop.ensures.need c.pop.ensures.saved
    (pass_stays (g.W.Words.held c.args.work.now) (g.W.Words.held c.pass.work) (g.W.Words.held c.visit.new.work) c.args.local.now c.next-due.new.self c.visit.new.local c.pass.confirmed c.unwrap_or-number.result (pass_looked (g.W.Words.held c.args.work.now) (g.W.Words.held c.pass.work) c.args.local.now c.pass.local c.next-due.new.self c.pass.confirmed c.next-due.ensures.start c.next-due.ensures.members c.next-due.ensures.need c.next-due.ensures.saved c.pass.invariant) st)

pub overflow_add-confirmed : goal.overflow_add-confirmed
overflow_add-confirmed g c =
    search rules

pub pass-smaller : goal.pass-smaller
pass-smaller g c =
    let st = (subst (λ (v : Visited). Visits (g.W.Words.held c.pass.work) (g.W.Words.held c.visit.new.work) c.next-due.new.self c.visit.new.local c.unwrap_or-number.result (Ok v)) c.in-Same.is c.in_ok-need.ensures) in
    looked_less c.pass.local c.next-due.new.self c.visit.new.local c.pass.confirmed (c.pass.confirmed + 1) c.next-due.ensures.members c.next-due.ensures.count
    (next_less c.next-due.new.self c.visit.new.local c.pass.confirmed st.answer.members st.answer.due (subst (λ (k : ℕ). c.pass.confirmed < k) (c.len.ensures.len ∙ ap (λ x. length x.entries) (sym c.next-due.ensures.members)) c.pass-test.true))

pub pass-preserved : goal.pass-preserved
pass-preserved g c =
    let st = (subst (λ (v : Visited). Visits (g.W.Words.held c.pass.work) (g.W.Words.held c.visit.new.work) c.next-due.new.self c.visit.new.local c.unwrap_or-number.result (Ok v)) c.in-Same.is c.in_ok-need.ensures) in
    pass_next (g.W.Words.held c.args.work.now) (g.W.Words.held c.pass.work) (g.W.Words.held c.visit.new.work) c.args.local.now c.next-due.new.self c.visit.new.local c.pass.confirmed c.unwrap_or-number.result (pass_looked (g.W.Words.held c.args.work.now) (g.W.Words.held c.pass.work) c.args.local.now c.pass.local c.next-due.new.self c.pass.confirmed c.next-due.ensures.start c.next-due.ensures.members c.next-due.ensures.need c.next-due.ensures.saved c.pass.invariant) (c.unwrap_or-number.ensures ∙ ap (λ (o : Option ℕ). unwrap_or o c.pass.confirmed) (none_due c.next-due.result (sym c.is_some.ensures ∙ c.if-is_some.false))) st

pub returns : goal.returns
returns g c =
    pass_whole (g.W.Words.held c.args.work.now) (g.W.Words.held c.pass.work) c.args.local.now c.pass.local c.pass.confirmed (subst (λ (k : ℕ). k ≤ c.pass.confirmed) c.len.ensures.len c.pass-test.false) c.pass.invariant
