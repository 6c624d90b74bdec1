use Rattle.std.proofs.Common.{◌∙◌, ℕ, ⊎_elim, ap, slice_index_or, subst, sym, arith}
use Rattle.std.proofs.lemmas.Bool.{cases_order}
use Rattle.worklists.specs.Waiting.{IsDue}
use Rattle.worklists.proofs.Numbers.{number_within}
use Rattle.worklists.proofs.worklist.wake_all.Goals as goal

pub returns-in_err-wake-clause-kept : goal.returns-in_err-wake-clause-kept
returns-in_err-wake-clause-kept c = record { due = λ k h. c.wake.ensures.kept.due k (c.loop-number.invariant.0.due k h) }

pub loop-number-preserved : goal.loop-number-preserved
loop-number-preserved c =
    let items = c.as_slice-number-items.result.now in (
      record { due = λ k h. c.wake.ensures.kept.due k (c.loop-number.invariant.0.due k h) },
      λ i k low at.
          ⊎_elim
          (λ same. subst (λ (n : ℕ). IsDue c.wake.new.self n) (number_within items c.loop-number.number-index 0 k c.loop-number-test.true ∙ ap (λ (n : ℕ). slice_index_or items n k) (sym same) ∙ at) c.in_ok-wake.ensures.has)
          (λ other. c.wake.ensures.kept.due k (c.loop-number.invariant.1 i k (⊎_elim (λ z. z) (λ z. absurd (omega (arith, low, z))) other) at))
          (cases_order i c.loop-number.number-index),
    )
