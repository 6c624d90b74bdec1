use Rattle.std.proofs.Common.{◌≡◌, ◌-◌, ◌+◌, suc, length, refl, ap, sym, subst, ◌∙◌, arith}
use Rattle.std.proofs.lemmas.Option.{slice_get_past, slice_get_read}
use Rattle.superclasses.specs.Superclasses.{line_up, superclass_of}
use Rattle.superclasses.proofs.Lines.{up_none}
use Rattle.ast_grammar.specs.Grammar.{superclasses_of}
use Rattle.ast_grammar.proofs.Inherited.{length-superclasses_of}
use Rattle.attr_rules.specs.Dispatching.{AddsClass}
use Rattle.attr_rules.proofs.CoveringLines.{Gathers, gathers_end, gathers_first, gathers_held, gathers_past, none_for}
use Rattle.attr_rules.proofs.covering.Covering.of_class.Goals as goal
use Rattle.attr_rules.proofs.covering.Covering.of_class.Goals.{else-loop-test, in-Some-get+in_ok-add_class-2, in_default-get, then-loop-test+in_default}

pub add_class-requires : goal.add_class-requires
add_class-requires c =
    none_for c.args.own.now c.args.class c.args.attributes c.index-own-class.result (slice_get_read c.args.own.now (length c.args.own.now) c.args.class c.index-own-class.result refl c.requires.known c.index-own-class.is)
    c.deref.ensures.value c.in_ok-covering.ensures.long c.requires.within

pub loop-init : goal.loop-init
loop-init c =
    let s = superclasses_of c.args.grammar.now in
    gathers_first s c.args.own.now c.args.class c.args.attributes c.index-own-class.result c.in_ok-covering.covering c.add_class.new.self
    (slice_get_read c.args.own.now (length c.args.own.now) c.args.class c.index-own-class.result refl c.requires.known c.index-own-class.is) c.in_ok-covering.ensures.long c.in_ok-covering.ensures.none
    (subst (λ ps. AddsClass ps c.in_ok-covering.covering c.add_class.new.self) c.deref.ensures.value c.in_ok-add_class.ensures) (omega (arith, length-superclasses_of c.args.grammar.now))
    (c.superclass-above.ensures ∙ ap (λ t. superclass_of t c.args.class) c.subclasses-subclasses.ensures)

pub add_class-requires-in-Some-get : goal.add_class-requires-in-Some-get
add_class-requires-in-Some-get c =
    let there = c.in-Some-get.ensures.lookup in
    none_for c.args.own.now c.in-Some.number c.args.attributes c.in-Some-get.paths.now (slice_get_read c.args.own.now (length c.args.own.now) c.in-Some.number c.in-Some-get.paths.now refl there.3.0 there.1)
    c.deref-in-Some-get.ensures.value c.loop.invariant.wide c.requires.within

pub loop-preserved : goal.loop-preserved
loop-preserved c =
    let s = superclasses_of c.args.grammar.now in
    let left = length c.args.grammar.now - (c.loop.counter + 1) in
    let one_less : length c.args.grammar.now - c.loop.counter ≡ suc left = omega (arith, c.loop-test.true, c.classes-end.ensures.number) in
    let up = c.superclass-above-in-loop.ensures ∙ ap (λ t. superclass_of t c.in-Some.number) c.subclasses-subclasses.ensures in
    let so_far = subst (λ n. Gathers s c.args.own.now c.args.class c.args.attributes n c.loop.above c.loop.covering) one_less c.loop.invariant in
    elim c.match-get.branch [
      | in-Some-get+in_ok-add_class-2 w ↦
          let there = w.in-Some-get.ensures.lookup in
          subst (Gathers s c.args.own.now c.args.class c.args.attributes left c.superclass-above-in-loop.result) (sym w.covering-is)
          (gathers_held s c.args.own.now c.args.class c.args.attributes left c.in-Some.number c.in-Some.is up so_far w.in-Some-get.paths.now w.add_class-in-Some-get.new.self
          (slice_get_read c.args.own.now (length c.args.own.now) c.in-Some.number w.in-Some-get.paths.now refl there.3.0 there.1)
          (subst (λ ps. AddsClass ps c.loop.covering w.add_class-in-Some-get.new.self) w.deref-in-Some-get.ensures.value w.in_ok-add_class-2.ensures))
      | in_default-get w ↦
          subst (Gathers s c.args.own.now c.args.class c.args.attributes left c.superclass-above-in-loop.result) (sym w.covering-is)
          (gathers_past s c.args.own.now c.args.class c.args.attributes left c.in-Some.number c.in-Some.is up so_far (slice_get_past c.args.own.now c.in-Some.number w.in_default-get.ensures.lookup.3))
    ]

pub returns : goal.returns
returns c =
    let s = superclasses_of c.args.grammar.now in
    let left = length c.args.grammar.now - c.loop.counter in
    elim c.loop-test.branch [
      | else-loop-test w ↦
          let none : left ≡ 0 = omega (arith, w.loop-test.false, c.classes-end.ensures.number) in
          gathers_end s c.args.own.now c.args.class c.args.attributes left c.loop.above (ap (λ n. line_up n s c.loop.above) none) c.loop.invariant
      | then-loop-test+in_default w ↦ gathers_end s c.args.own.now c.args.class c.args.attributes left c.loop.above (ap (line_up left s) w.in_default.is ∙ up_none left s) c.loop.invariant
    ]
