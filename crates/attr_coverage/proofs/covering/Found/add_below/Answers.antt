use Rattle.std.proofs.Common.{◌+◌, ◌&&◌, arith, ltb, subst, sym, ◌∙◌}
use Rattle.attr_coverage.specs.Covering.{is_concrete_below}
use Rattle.attr_coverage.specs.CoveringKept.{Adds, Grows}
use Rattle.attr_coverage.proofs.Marks.{adds_all, adds_no_more, adds_one, adds_start, grown_none, grown_then}
use Rattle.attr_coverage.proofs.Rounds.{concrete_below_within}
use Rattle.attr_coverage.proofs.covering.Found.add_below.Goals as goal
use Rattle.attr_coverage.proofs.covering.Found.add_below.Goals.{then-is_concrete_below+in_ok-add, else-is_concrete_below}

pub loop-number-init : goal.loop-number-init
loop-number-init c = record { grown = grown_none; added = adds_start (is_concrete_below c.args.grammar.now c.args.above.0) }

pub loop-number-preserved : goal.loop-number-preserved
loop-number-preserved c =
    let test = is_concrete_below c.args.grammar.now c.args.above.0 in
    let n = c.loop-number.number in
    let kept = c.loop-number.invariant in
    let before = c.args.self.now in
    elim c.if-is_concrete_below.branch [
      | then-is_concrete_below+in_ok-add w ↦ record {
        grown = subst (Grows before) (sym w.self-is) (grown_then kept.grown w.in_ok-add.ensures.grown);
        added = subst (Adds (λ d. ltb d (n + 1) && test d) before) (sym w.self-is) (adds_one test n (sym c.is_concrete_below.ensures ∙ w.if-is_concrete_below.true) kept.added w.in_ok-add.ensures.added);
      }
      | else-is_concrete_below w ↦ record {
        grown = subst (Grows before) (sym w.self-is) kept.grown;
        added = subst (Adds (λ d. ltb d (n + 1) && test d) before) (sym w.self-is) (adds_no_more test n (sym c.is_concrete_below.ensures ∙ w.if-is_concrete_below.false) kept.added);
      }
    ]

pub add-requires : goal.add-requires
add-requires c = let kept = c.loop-number.invariant.grown.long in omega arith

pub returns-clause-added : goal.returns-clause-added
returns-clause-added c =
    let g = c.args.grammar.now in
    let test = is_concrete_below g c.args.above.0 in
    adds_all test c.loop-number.number (λ d e. (let within = concrete_below_within g c.args.above.0 d e in omega arith)) c.loop-number.invariant.added
