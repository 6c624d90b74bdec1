use Rattle.std.proofs.Common.{◌≡◌, ℕ, List, Option, sum_by, take, length, ap, arith, ◌∙◌}
use Rattle.std.proofs.Math.Seq.{take-length}
use Rattle.equation_law.specs.Systems.{program_of}
use Rattle.plain_rounds.specs.declared.values.NamedValue.{NamedValue}
use Rattle.plain_rounds.specs.Rooms.{room}
use Rattle.plain_rounds.specs.Steps.{known}
use Rattle.plain_rounds.proofs.rooms.rooms.Goals as goal

pub returns : goal.returns
returns c = λ system held n named.
    let values = c.args.values.now in
    let all : c.loop-value.value-index ≡ length values = omega (arith, c.loop-value-test.false, c.loop-value.auto.value-index-end) in
    let whole : take c.loop-value.value-index values ≡ values = ap (λ (n : ℕ). take n values) all ∙ take-length values in
    record {
      sum = c.loop-value.invariant.sum system held n named ∙ ap (λ (xs : List (Option NamedValue)). sum_by (λ v. room (known (program_of system) n v)) xs) whole;
      low = λ k h. c.loop-value.invariant.low system held n named k (omega (arith, all, h));
    }
