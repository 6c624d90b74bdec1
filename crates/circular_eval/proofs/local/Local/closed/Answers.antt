use Rattle.std.proofs.Common.{◌≡◌, ◌+◌, ◌∙◌, ℕ, IsSome, List, ap, false, true, sym, subst, arith}
use Rattle.std.specs.Option.{is_some}
use Rattle.worklists.specs.Waiting.{AreClosed}
use Rattle.circular_eval.proofs.Sealing.{AreUnsealed, closed_members, unsealed_empty, unsealed_more, unsealed_none, unsealed_same}
use Rattle.circular_eval.proofs.local.Local.closed.Goals as goal
use Rattle.circular_eval.proofs.local.Local.closed.Goals.{then-is_some+in-Ok, else-is_some}

pub loop-number-init : goal.loop-number-init
loop-number-init c = unsealed_none c.args.self.now.members.entries c.as_slice-number-items.result.now c.new-closed.result.items c.new-closed.ensures.items

pub loop-number-preserved : goal.loop-number-preserved
loop-number-preserved c =
    elim c.if-is_some.branch [
      | then-is_some+in-Ok w ↦
          subst (λ v. AreUnsealed c.args.self.now.members.entries c.as_slice-number-items.result.now (c.loop-number.number-index + 1) v.items) (sym w.closed-is)
          (unsealed_more c.args.self.now.members.entries c.as_slice-number-items.result.now c.loop-number.closed.items w.push.new.self.items c.loop-number.number-index c.loop-number-test.true (subst (λ o. IsSome o) c.unsealed.ensures (sym c.is_some.ensures ∙ w.if-is_some.true)) w.in-Ok.ensures.items c.loop-number.invariant)
      | else-is_some w ↦
          subst (λ v. AreUnsealed c.args.self.now.members.entries c.as_slice-number-items.result.now (c.loop-number.number-index + 1) v.items) (sym w.closed-is)
          (unsealed_same c.args.self.now.members.entries c.as_slice-number-items.result.now c.loop-number.closed.items c.loop-number.number-index c.loop-number-test.true (λ some. let no : false ≡ true = w.if-is_some.ensures ∙ ap is_some c.unsealed.ensures ∙ some in let e : ⊥ = cc in e) c.loop-number.invariant)
    ]

pub returns-clause-soon : goal.returns-clause-soon
returns-clause-soon c early = unsealed_empty c.args.self.now.members.entries c.as_slice-number-items.result.now c.loop-number.closed.items c.loop-number.number-index (c.as_slice-number-items.ensures.value ∙ c.in_ok-found.ensures.soon early) c.loop-number.invariant

pub returns-clause-all : goal.returns-clause-all
returns-clause-all c worth =
    closed_members c.args.self.now (c.in-Some.stopped, c.in-Some.field-0-1) c.as_slice-number-items.result.now c.loop-number.closed.items c.loop-number.number-index c.in-Some.is (subst (λ (ks : List ℕ). AreClosed c.args.self.now.worklist c.in-Some.stopped ks) (sym c.as_slice-number-items.ensures.value) (c.in_ok-found.ensures.all worth)) (omega (arith, c.loop-number.auto.number-index-end, c.loop-number-test.false)) c.loop-number.invariant
