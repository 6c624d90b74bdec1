use Rattle.std.proofs.Common.{arith, rules}
use Rattle.attr_coverage.specs.Covering.{is_covered_for}
use Rattle.attr_coverage.proofs.Following.{roots_all, roots_more}
use Rattle.attr_coverage.proofs.Marks.{adds_none, grown_none, grown_then}
use Rattle.attr_coverage.proofs.covering.Found.follow_made.Goals as goal

pub loop-root-init : goal.loop-root-init
loop-root-init c = record { grown = grown_none; added = λ targets known. adds_none }

pub loop-root-preserved : goal.loop-root-preserved
loop-root-preserved c =
    let g = c.args.grammar.now in
    let kept = c.loop-root.invariant in
    record {
      grown = grown_then kept.grown c.in_ok-follow_root.ensures.grown;
      added = λ targets known.
          roots_more g (is_covered_for g targets c.args.first) c.args.class.0 c.args.made.now c.loop-root.root-index _ (search rules) (search rules) (kept.added targets known) (c.in_ok-follow_root.ensures.added targets known);
    }

pub follow_root-requires : goal.follow_root-requires
follow_root-requires c = let kept = c.loop-root.invariant.grown.long in omega arith

pub returns-clause-added : goal.returns-clause-added
returns-clause-added c = λ targets known.
    let g = c.args.grammar.now in
    roots_all g (is_covered_for g targets c.args.first) c.args.class.0 c.args.made.now c.loop-root.root-index c.loop-root-test.false (c.loop-root.invariant.added targets known)
