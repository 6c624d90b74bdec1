use Rattle.std.proofs.Common.{inl, inr}
use Rattle.std.proofs.lemmas.Result.{IfOk-weaker}
use Rattle.superclasses.proofs.Leaps.{AreFar, go_up_twice, marked_own, nowhere_found}
use Rattle.superclasses.proofs.jumps.own_marks.Goals as goal
use Rattle.superclasses.proofs.jumps.own_marks.Goals.{then-loop-steps-test+else-lead_anywhere, else-loop-steps-test}

pub loop-steps-preserved : goal.loop-steps-preserved
loop-steps-preserved c =
    go_up_twice c.args.superclasses.now c.loop-steps.steps c.loop-steps.jumps.items c.deref-in-loop-steps.result.now c.in_ok-jumps-2.jumps.items c.loop-steps.invariant c.deref-in-loop-steps.ensures.value c.in_ok-jumps-2.ensures

pub returns-clause-exact : goal.returns-clause-exact
returns-clause-exact c =
    let far : AreFar c.args.superclasses.now c.loop-steps.steps c.loop-steps.jumps.items = elim c.loop-steps-test.branch [
      | then-loop-steps-test+else-lead_anywhere w ↦ inr (nowhere_found c.loop-steps.jumps.items w.deref.result.now w.deref.ensures.value w.lead_anywhere.result w.lead_anywhere.ensures w.if-lead_anywhere.false)
      | else-loop-steps-test w ↦ inl w.loop-steps-test.false
    ] in
    IfOk-weaker c.marked.result _ _ (λ v h. marked_own c.args.superclasses.now c.loop-steps.steps c.loop-steps.jumps.items c.loop-steps.invariant far c.deref-2.result.now c.deref-2.ensures.value v.items h) c.marked.ensures.exact
