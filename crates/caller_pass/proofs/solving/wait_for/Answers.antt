use Rattle.std.proofs.Common.{◌≡◌, ◌⊎◌, inl, inr, ⊎_elim, true, List, map, refl, sym, ap, subst, ◌∙◌}
use Rattle.equation_law.specs.declared.coding.Instance.{Instance as CodedInstance}
use Rattle.equation_law.specs.Codes.{instance_by}
use Rattle.equation_law.specs.Loops.{HasLoop}
use Rattle.memo_cells.specs.Working.{program_at}
use Rattle.caller_pass.specs.declared.waiting.Waiter.{Waiter}
use Rattle.caller_pass.specs.Waiting.{AreWaiting, IsLineTo, waits}
use Rattle.caller_pass.proofs.solving.wait_for.Goals as goal

pub returns-then-closes_loop-clause-answer : goal.returns-then-closes_loop-clause-answer
returns-then-closes_loop-clause-answer c = λ names named.
    let p = program_at c.args.desk.now in
    let pushed = c.in_ok-push.ensures in (
      refl,
      subst (λ es. (waits es c.args.next ≡ true) ⊎ HasLoop p (instance_by p names c.args.next)) pushed (⊎_elim inl (λ looping. inr (looping names named)) (c.closes_loop.ensures.closes c.if-closes_loop.true)),
      λ others g u w. subst (λ (es : List (CodedInstance × Waiter)). IsLineTo p others es (instance_by p others c.args.next) (map (instance_by p others) c.in_ok-chain.chain)) pushed
          (c.in_ok-chain.ensures p others g u (subst (λ (es : List (CodedInstance × Waiter)). AreWaiting p others g u es (instance_by p others c.args.next)) (sym pushed) w)),
    )

pub returns-clause-answer : goal.returns-clause-answer
returns-clause-answer c = λ names named.
    let pushed = c.in_ok-push.ensures in (
      pushed,
      c.in_ok-slot.ensures.slot names named,
      refl,
      ap (λ es. waits es c.args.next) (sym pushed) ∙ c.closes_loop.ensures.other c.if-closes_loop.false,
      refl,
    )
