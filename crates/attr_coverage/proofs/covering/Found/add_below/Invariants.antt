use Rattle.std.proofs.Common.{◌&&◌, ltb}
use Rattle.attr_coverage.specs.Covering.{is_concrete_below}
use Rattle.attr_coverage.specs.CoveringKept.{Adds, Grows}
use Rattle.attr_coverage.proofs.covering.Found.add_below.Given as goal

abbrev pub invariant-loop-number : goal.invariant-loop-number
invariant-loop-number l = record {
  grown : Grows l.initial.self l.self;
  added : Adds (λ c. ltb c l.number && is_concrete_below l.grammar l.above.0 c) l.initial.self l.self;
}
