use Rattle.std.proofs.Common.{◌≡◌, ◌-◌, ◌+◌, suc, length, refl, ap, ◌∙◌, arith, rules}
use Rattle.std.proofs.lemmas.Option.{slice_get_past, slice_get_read}
use Rattle.superclasses.specs.Superclasses.{line_up, superclass_of}
use Rattle.superclasses.proofs.Lines.{up_none}
use Rattle.ast_grammar.specs.Grammar.{superclasses_of}
use Rattle.ast_grammar.proofs.Inherited.{length-superclasses_of}
use Rattle.attr_rules.proofs.NearestRows.{climbs_end, climbs_first, climbs_held, climbs_past, filled_in}
use Rattle.attr_rules.proofs.dispatch.nearest_row.Goals as goal
use Rattle.attr_rules.proofs.dispatch.nearest_row.Goals.{else-loop-test, in-Some-get, in_default-get, then-loop-test+in_default}

pub loop-init : goal.loop-init
loop-init c =
    let s = superclasses_of c.args.grammar.now in
    climbs_first s c.args.own.now c.args.class c.index-own-class.result (slice_get_read c.args.own.now (length c.args.own.now) c.args.class c.index-own-class.result refl c.requires c.index-own-class.is)
    (search rules) (omega (arith, length-superclasses_of c.args.grammar.now)) (c.superclass-above.ensures ∙ ap (λ t. superclass_of t c.args.class) c.subclasses-subclasses.ensures)

pub loop-preserved : goal.loop-preserved
loop-preserved c =
    let s = superclasses_of c.args.grammar.now in
    let left = length c.args.grammar.now - (c.loop.counter + 1) in
    let one_less : length c.args.grammar.now - c.loop.counter ≡ suc left = omega (arith, c.loop-test.true, c.classes-end.ensures.number) in
    let up = c.superclass-above-in-loop.ensures ∙ ap (λ t. superclass_of t c.in-Some.number) c.subclasses-subclasses.ensures in
    let so_far = rw one_less at c.loop.invariant in
    elim c.match-get.branch [
      | in-Some-get w ↦
          let there = w.in-Some-get.ensures.lookup in
          climbs_held s c.args.own.now c.args.class left c.in-Some.number c.in-Some.is up so_far w.in-Some-get.held.now
          (slice_get_read c.args.own.now (length c.args.own.now) c.in-Some.number w.in-Some-get.held.now refl there.3.0 there.1)
          (filled_in c.loop.row w.in-Some-get.held.now.items w.deref_mut.ensures.value w.deref-in-Some-get.ensures.value w.fill.ensures w.row-is)
      | in_default-get w ↦
          rw w.row-is (climbs_past s c.args.own.now c.args.class left c.in-Some.number c.in-Some.is up so_far (slice_get_past c.args.own.now c.in-Some.number w.in_default-get.ensures.lookup.3))
    ]

pub returns : goal.returns
returns c =
    let s = superclasses_of c.args.grammar.now in
    let left = length c.args.grammar.now - c.loop.counter in
    elim c.loop-test.branch [
      | else-loop-test w ↦
          let none : left ≡ 0 = omega (arith, w.loop-test.false, c.classes-end.ensures.number) in
          climbs_end s c.args.own.now c.args.class left c.loop.above (ap (λ n. line_up n s c.loop.above) none) c.loop.invariant
      | then-loop-test+in_default w ↦ climbs_end s c.args.own.now c.args.class left c.loop.above (ap (line_up left s) w.in_default.is ∙ up_none left s) c.loop.invariant
    ]
