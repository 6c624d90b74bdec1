-- One more value, and the whole round.
use Rattle.std.proofs.Common.{All, sym, subst, ap, length, length-append, arith, List, get_or, None, Option, ℕ, ◌+◌, ◌<◌, ◌≡◌, ◌∙◌}
use Rattle.plain_rounds.specs.declared.values.NamedValue.{NamedValue}
use Rattle.std.proofs.lemmas.List.Elements.{All-push}
use Rattle.plain_rounds.specs.Places.{IsHeld}
use Rattle.plain_rounds.specs.Settings.{AreHeld, naming_at, program_at}
use Rattle.plain_rounds.specs.Steps.{IsRound, IsStepAt}
use Rattle.plain_rounds.proofs.Settings.{settled_ready}
use Rattle.plain_rounds.proofs.Solving.{pushed, round_next}
use Rattle.plain_rounds.proofs.rounds.round.Goals as goal

pub stepped-requires-clause-ready : goal.stepped-requires-clause-ready
stepped-requires-clause-ready c = settled_ready c.args.setting.now c.requires.set c.args.settled.now c.requires.after c.requires.settled

pub stepped-requires-clause-inner : goal.stepped-requires-clause-inner
stepped-requires-clause-inner c = subst (AreHeld c.args.setting.now) (sym c.deref.ensures.value) c.in_ok-inner.ensures.held

pub loop-k-preserved : goal.loop-k-preserved
loop-k-preserved c =
    let p = c.in_ok-push.ensures.added in
    let s = c.args.setting.now in
    let Q = IsStepAt (program_at s) (naming_at s) s.names.now c.args.settled.now c.in_ok-inner.inner.items in
    let step = subst (λ xs. IsStepAt (program_at s) (naming_at s) s.names.now c.args.settled.now xs c.loop-k.k c.in_ok-value.value) c.deref.ensures.value c.in_ok-value.ensures.step in
    record {
      long = omega (arith, ap length p, length-append {A = Option NamedValue});
      each = subst (λ (xs : List (Option NamedValue)). (i : ℕ) → i < c.loop-k.k + 1 → Q i (get_or xs i None)) (sym p) (pushed Q c.loop-k.next.items c.in_ok-value.value None c.loop-k.k c.loop-k.invariant.long c.loop-k.invariant.each step);
      held = subst (All (IsHeld (program_at s))) (sym p) (All-push (IsHeld (program_at s)) c.loop-k.next.items c.in_ok-value.value c.loop-k.invariant.held c.in_ok-value.ensures.held);
    }

pub returns-clause-after : goal.returns-clause-after
returns-clause-after c =
    let s = c.args.setting.now in
    let p = program_at s in
    let n = naming_at s in
    let all : c.loop-k.k ≡ length s.names.now = omega (arith, c.loop-k-test.false, c.loop-k.auto.k-end) in
    let long : length c.loop-k.next.items ≡ length s.names.now = c.loop-k.invariant.long ∙ all in
    let r : IsRound p n s.names.now c.args.settled.now c.in_ok-inner.inner.items c.loop-k.next.items = record { long = long; each = λ k h. c.loop-k.invariant.each k (omega (arith, all, h)) } in
    round_next p n s.names.now c.args.settled.now c.requires.after c.in_ok-inner.inner.items c.loop-k.next.items c.in_ok-inner.ensures.left r
