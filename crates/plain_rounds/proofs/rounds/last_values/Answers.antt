-- The first table, a further round, and the end.
use Rattle.std.proofs.Common.{◌≡◌, None, length, sym, subst, ap, ◌∙◌, count_by, is_none, List, Option, ◌≤◌, replicate}
use Rattle.std.proofs.lemmas.List.{length-replicate}
use Rattle.std.proofs.lemmas.List.Elements.{All-replicate}
use Rattle.plain_rounds.specs.declared.values.NamedValue.{NamedValue}
use Rattle.plain_rounds.specs.Places.{IsHeld}
use Rattle.plain_rounds.specs.Settings.{AreHeld, naming_at, program_at}
use Rattle.plain_rounds.specs.Steps.{IsAfter, IsNext}
use Rattle.plain_rounds.proofs.Solving.{after_none, after_round, each_stands, ended_at}
use Rattle.plain_rounds.proofs.rounds.last_values.Goals as goal

pub loop-values-init : goal.loop-values-init
loop-values-init c =
    let s = c.args.setting.now in
    let none : AreHeld s (replicate (length s.names.now) None) = record { long = length-replicate (length s.names.now) None; held = All-replicate (IsHeld (program_at s)) (length s.names.now) None tt } in
    record {
      after = subst (IsAfter (program_at s) (naming_at s) s.names.now) (sym c.in_ok-values.ensures) (after_none (program_at s) (naming_at s) s.names.now);
      are = subst (AreHeld s) (sym c.in_ok-values.ensures) none;
      gaps = c.missing-left.ensures ∙ ap (λ (xs : List (Option NamedValue)). count_by is_none xs) c.deref.ensures.value;
    }

pub round-requires-clause-settled : goal.round-requires-clause-settled
round-requires-clause-settled c = subst (AreHeld c.args.setting.now) (sym c.deref-in-loop-values.ensures.value) c.loop-values.invariant.are

pub loop-values-preserved : goal.loop-values-preserved
loop-values-preserved c =
    let s = c.args.setting.now in
    let r = subst (λ xs. IsNext (program_at s) (naming_at s) s.names.now xs c.in_ok-next.next.items) c.deref-in-loop-values.ensures.value c.in_ok-next.ensures.after in
    record {
      after = after_round (program_at s) (naming_at s) s.names.now c.loop-values.values.items c.loop-values.invariant.after c.in_ok-next.next.items r;
      are = c.in_ok-next.ensures.held;
      gaps = c.missing-now.ensures ∙ ap (λ (xs : List (Option NamedValue)). count_by is_none xs) c.deref-in-loop-values-2.ensures.value;
    }

pub returns-then-now-left : goal.returns-then-now-left
returns-then-now-left c =
    let s = c.args.setting.now in
    let p = program_at s in
    let n = naming_at s in
    let r = subst (λ xs. IsNext p n s.names.now xs c.in_ok-next.next.items) c.deref-in-loop-values.ensures.value c.in_ok-next.ensures.after in
    let now : c.missing-now.result ≡ count_by is_none c.in_ok-next.next.items = c.missing-now.ensures ∙ ap (λ (xs : List (Option NamedValue)). count_by is_none xs) c.deref-in-loop-values-2.ensures.value in
    let full = subst (λ x. x ≤ count_by is_none c.in_ok-next.next.items) c.loop-values.invariant.gaps (subst (λ x. c.loop-values.left ≤ x) now c.if-now-left.true) in
    record {
      end = ended_at p n s.names.now c.loop-values.values.items c.in_ok-next.next.items c.loop-values.invariant.after r full;
      each = each_stands p n s.names.now c.loop-values.values.items c.loop-values.invariant.after;
    }
