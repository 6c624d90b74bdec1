use Rattle.std.proofs.Common.{◌≡◌, false, IfSome, Option, sym, subst}
use Rattle.equation_law.specs.declared.coding.Instance.{Instance as CodedInstance}
use Rattle.caller_pass.specs.declared.waiting.Packed.{Packed}
use Rattle.caller_pass.specs.declared.waiting.Waiter.{Waiter}
use Rattle.caller_pass.specs.Packing.{all_unpacked}
use Rattle.caller_pass.specs.Waiting.{waits}
use Rattle.caller_pass.proofs.Stacks.{gone}
use Rattle.caller_pass.proofs.waiting.Waiting.pop.Goals.{in-None, in-Some}
use Rattle.caller_pass.proofs.waiting.Waiting.pop.Goals as goal

pub returns-clause-other : goal.returns-clause-other
returns-clause-other c =
    let left = all_unpacked c.pop.new.self.entries in
    let away = gone c.self.inside.waiters c.pop.new.self c.pop.result c.pop.ensures.updates in
    elim c.match-pop.branch [
      | in-None w ↦ subst (λ (r : Option (CodedInstance × Waiter)). IfSome r (λ e. waits left e.0 ≡ false)) (sym w.result-is) tt
      | in-Some w ↦ subst (λ (r : Option (CodedInstance × Waiter)). IfSome r (λ e. waits left e.0 ≡ false)) (sym w.result-is) (subst (λ (r : Option (CodedInstance × Packed)). IfSome r (λ e. waits left e.0 ≡ false)) w.in-Some.is away)
    ]
