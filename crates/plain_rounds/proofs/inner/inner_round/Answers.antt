-- One more value.
use Rattle.std.proofs.Common.{All, sym, subst, ap, length, length-append, arith, List, get_or, None, Option, ℕ, ◌+◌, ◌<◌}
use Rattle.plain_rounds.specs.declared.values.NamedValue.{NamedValue}
use Rattle.std.proofs.lemmas.List.Elements.{All-push}
use Rattle.plain_rounds.specs.Places.{IsHeld}
use Rattle.plain_rounds.specs.Settings.{naming_at, program_at}
use Rattle.plain_rounds.specs.Steps.{IsInnerStepAt}
use Rattle.plain_rounds.proofs.Solving.{pushed}
use Rattle.plain_rounds.proofs.inner.inner_round.Goals as goal

pub loop-k-preserved : goal.loop-k-preserved
loop-k-preserved c =
    let p = c.in_ok-push.ensures.added in
    let s = c.args.setting.now in
    let Q = IsInnerStepAt (program_at s) (naming_at s) s.names.now c.args.settled.now c.args.values.now in
    record {
      long = omega (arith, ap length p, length-append {A = Option NamedValue});
      each = subst (λ (xs : List (Option NamedValue)). (i : ℕ) → i < c.loop-k.k + 1 → Q i (get_or xs i None)) (sym p) (pushed Q c.loop-k.next.items c.in_ok-value.value None c.loop-k.k c.loop-k.invariant.long c.loop-k.invariant.each c.in_ok-value.ensures.step);
      held = subst (All (IsHeld (program_at s))) (sym p) (All-push (IsHeld (program_at s)) c.loop-k.next.items c.in_ok-value.value c.loop-k.invariant.held c.in_ok-value.ensures.held);
    }
