use Rattle.std.proofs.Common.{ℕ, ◌<◌, arith, subst}
use Rattle.circular_eval.proofs.Ending.{begin_admits, begin_none, first_new}
use Rattle.circular_eval.proofs.advancing.begin.Goals as goal

pub returns-then-len-gt0 : goal.returns-then-len-gt0
returns-then-len-gt0 g c =
    begin_none c.args.system.now (g.W.Words.held c.args.work.now) c.args.local.now tt c.requires.ready (subst (λ (k : ℕ). 0 < k) c.len.ensures.len c.if-len-gt0.true)

pub admit-requires-clause-ready : goal.admit-requires-clause-ready
admit-requires-clause-ready g c =
    c.requires.ready

pub admit-requires-clause-new : goal.admit-requires-clause-new
admit-requires-clause-new g c =
    first_new c.args.system.now (g.W.Words.held c.args.work.now) c.args.local.now c.requires.ready (omega (arith, c.len.ensures.len, c.if-len-gt0.false)) c.first-start.result c.first-start.ensures

pub returns : goal.returns
returns g c =
    begin_admits (g.W.Words.held c.args.work.now) (g.W.Words.held c.admit.new.work) c.args.local.now c.admit.new.local c.admit.result c.admit.ensures
