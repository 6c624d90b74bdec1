use Rattle.std.proofs.Common.{◌<◌, ap, arith, false, length, rules, subst, ◌∙◌}
use Rattle.std.proofs.lemmas.List.{length-replicate}
use Rattle.attr_coverage.specs.Covering.{is_concrete_below, is_covered_for}
use Rattle.attr_coverage.specs.CoveringKept.{Adds}
use Rattle.attr_coverage.proofs.PartWay.{few_listed, follows_row, listed_within, part_all, part_more, part_start}
use Rattle.attr_coverage.proofs.covering.uncovered_classes.Goals as goal

pub loop-next-init : goal.loop-next-init
loop-next-init c =
    let g = c.args.grammar.now in
    record {
      long = c.in_ok-add_below.ensures.grown.long ∙ ap length c.in_ok-found.ensures.marks ∙ length-replicate c.classes.result false ∙ c.classes.ensures.number;
      kept = c.in_ok-add_below.ensures.grown.kept c.in_ok-found.ensures.listed;
      part = λ targets known made has.
          part_start g (is_covered_for g targets c.args.first) made c.classes.result c.in_ok-found.ensures.marks
          (subst (λ n. Adds (is_concrete_below g n) c.in_ok-found.found c.add_below.new.self) c.first_class.ensures c.in_ok-add_below.ensures.added);
    }

pub loop-next-preserved : goal.loop-next-preserved
loop-next-preserved c =
    let g = c.args.grammar.now in
    let before = c.loop-next.invariant in
    let more = c.in_ok-follow.ensures in
    let class = c.index-class.result.now in
    let listed = listed_within before.kept c.loop-next.next class (search rules) c.index-class.ensures in
    let within : class.0 < length c.args.made.now = omega (arith, listed, before.long, c.requires) in
    record {
      long = more.grown.long ∙ before.long;
      kept = more.grown.kept before.kept;
      part = λ targets known made has.
          (let covered = is_covered_for g targets c.args.first in
          let row = follows_row g covered made c.args.made.now has class.0 within c.index-made-class.is c.deref.ensures.value (more.added targets known) in
          part_more g covered made (before.part targets known made has) before.kept class (search rules) c.index-class.ensures more.grown row);
    }

pub loop-next-smaller : goal.loop-next-smaller
loop-next-smaller c =
    let few = few_listed c.loop-next.invariant.kept in
    let long = c.loop-next.invariant.long in
    omega (arith, few, long)

pub bounds-made-class : goal.bounds-made-class
bounds-made-class c =
    let before = c.loop-next.invariant in
    let listed = listed_within before.kept c.loop-next.next c.index-class.result.now (search rules) c.index-class.ensures in
    omega (arith, listed, before.long, c.requires)

pub follow-requires-clause-class : goal.follow-requires-clause-class
follow-requires-clause-class c =
    let before = c.loop-next.invariant in
    let listed = listed_within before.kept c.loop-next.next c.index-class.result.now (search rules) c.index-class.ensures in
    omega (arith, listed, before.long)

pub returns : goal.returns
returns c = λ targets known made has.
    part_all c.args.grammar.now (is_covered_for c.args.grammar.now targets c.args.first) made (c.loop-next.invariant.part targets known made has) c.loop-next.invariant.kept (search rules)
