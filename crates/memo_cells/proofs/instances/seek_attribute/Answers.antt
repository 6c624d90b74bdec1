use Rattle.std.proofs.Common.{rules, [], refl, sym, arith}
use Rattle.equation_law.specs.Codes.{codes_in}
use Rattle.equation_law.proofs.Pooled.{texts_pooled}
use Rattle.memo_cells.specs.Keys.{argument_word, attribute_word}
use Rattle.memo_cells.specs.Working.{program_at}
use Rattle.memo_cells.proofs.Holding.{missing_at, own_then, reads_then, slot_back, way_held}
use Rattle.memo_cells.proofs.More.{at_least_itself}
use Rattle.memo_cells.proofs.Ways.{fits, if_none, nowhere_first, nowhere_on, place_less, way_ends, way_key_next, way_known, way_next, way_plain}
use Rattle.memo_cells.proofs.instances.seek_attribute.Goals as goal

pub returns-in_err-slot-clause-none : goal.returns-in_err-slot-clause-none
returns-in_err-slot-clause-none g c = λ coded known.
    let d = g.W.Words.held c.args.work.now in
    let e = g.W.Words.held c.seek.new.self in
    if_none c.from_residual.result (λ s m named. nowhere_first d.frame e.view c.args.attr.0 c.args.node.0 (program_at d) named (texts_pooled d.frame.system.value) (own_then d e c.seek.ensures.on.on) c.args.args coded.1 c.in_err-slot.ensures.none.nowhere s)

pub loop-code-init : goal.loop-code-init
loop-code-init g c = record {
  on = c.seek.ensures.on;
  few = search rules;
  way = record { key = attribute_word c.args.attr.0 c.args.node.0; slot = c.in_ok-slot.ensures.slot; named = (search rules, search rules, refl) };
}

pub seek-requires-in-Some : goal.seek-requires-in-Some
seek-requires-in-Some g c = record { slot = fits (g.W.Words.held c.args.work.now).frame (g.W.Words.held c.loop-code.work).view (g.W.Words.held c.loop-code.work).view c.args.attr.0 c.args.node.0 c.args.args c.loop-code.place c.loop-code.slot.0 c.loop-code.invariant.way (own_then (g.W.Words.held c.args.work.now) (g.W.Words.held c.loop-code.work) c.loop-code.invariant.on.on) (at_least_itself (g.W.Words.held c.loop-code.work).view) }

pub returns-in_err-slot-2-clause-on : goal.returns-in_err-slot-2-clause-on
returns-in_err-slot-2-clause-on g c = reads_then (g.W.Words.held c.args.work.now) (g.W.Words.held c.loop-code.work) (g.W.Words.held c.seek-in-Some.new.self) c.loop-code.invariant.on c.seek-in-Some.ensures.on

pub returns-in_err-slot-2-clause-none : goal.returns-in_err-slot-2-clause-none
returns-in_err-slot-2-clause-none g c = λ coded known.
    let on = reads_then (g.W.Words.held c.args.work.now) (g.W.Words.held c.loop-code.work) (g.W.Words.held c.seek-in-Some.new.self) c.loop-code.invariant.on c.seek-in-Some.ensures.on in
    if_none c.from_residual-in_err-slot-2.result
    (λ s m named. nowhere_on (g.W.Words.held c.args.work.now).frame (g.W.Words.held c.loop-code.work).view (g.W.Words.held c.seek-in-Some.new.self).view c.args.attr.0 c.args.node.0 c.args.args c.loop-code.place c.loop-code.slot.0 c.loop-code.invariant.way (own_then (g.W.Words.held c.args.work.now) (g.W.Words.held c.loop-code.work) c.loop-code.invariant.on.on) c.seek-in-Some.ensures.on.on.kept c.in-Some.code (sym c.in-Some.ensures) (program_at (g.W.Words.held c.args.work.now)) named (texts_pooled (g.W.Words.held c.args.work.now).frame.system.value) (own_then (g.W.Words.held c.args.work.now) (g.W.Words.held c.seek-in-Some.new.self) on.on) coded.1 c.in_err-slot-2.ensures.none.nowhere s)

pub loop-code-smaller : goal.loop-code-smaller
loop-code-smaller g c = let less = place_less (g.W.Words.held c.args.work.now).frame (g.W.Words.held c.loop-code.work).view (g.W.Words.held c.loop-code.work).view c.args.attr.0 c.args.node.0 c.args.args c.loop-code.place c.loop-code.slot.0 c.loop-code.invariant.way (own_then (g.W.Words.held c.args.work.now) (g.W.Words.held c.loop-code.work) c.loop-code.invariant.on.on) (at_least_itself (g.W.Words.held c.loop-code.work).view) c.in-Some.code 0 (search rules) (sym c.in-Some.ensures) in omega (arith, less)

pub loop-code-preserved : goal.loop-code-preserved
loop-code-preserved g c = record {
  on = reads_then (g.W.Words.held c.args.work.now) (g.W.Words.held c.loop-code.work) (g.W.Words.held c.seek-in-Some.new.self) c.loop-code.invariant.on c.seek-in-Some.ensures.on;
  few = let less = place_less (g.W.Words.held c.args.work.now).frame (g.W.Words.held c.loop-code.work).view (g.W.Words.held c.loop-code.work).view c.args.attr.0 c.args.node.0 c.args.args c.loop-code.place c.loop-code.slot.0 c.loop-code.invariant.way (own_then (g.W.Words.held c.args.work.now) (g.W.Words.held c.loop-code.work) c.loop-code.invariant.on.on) (at_least_itself (g.W.Words.held c.loop-code.work).view) c.in-Some.code 0 (search rules) (sym c.in-Some.ensures) in omega (arith, less);
  way = way_next (g.W.Words.held c.args.work.now).frame (g.W.Words.held c.loop-code.work).view (g.W.Words.held c.seek-in-Some.new.self).view c.args.attr.0 c.args.node.0 c.args.args c.loop-code.place c.loop-code.slot.0 c.loop-code.invariant.way (own_then (g.W.Words.held c.args.work.now) (g.W.Words.held c.loop-code.work) c.loop-code.invariant.on.on) c.seek-in-Some.ensures.on.on.kept c.in-Some.code c.in_ok-slot-2.slot.0 (search rules) (sym c.in-Some.ensures) (slot_back (g.W.Words.held c.args.work.now) (g.W.Words.held c.loop-code.work) (g.W.Words.held c.seek-in-Some.new.self) c.in_ok-slot-2.slot.0 (argument_word c.loop-code.slot.0 c.in-Some.code) c.loop-code.invariant.on.on c.in_ok-slot-2.ensures.slot);
}

pub returns-clause-plain : goal.returns-clause-plain
returns-clause-plain g c = way_plain (g.W.Words.held c.args.work.now).frame (g.W.Words.held c.loop-code.work).view c.args.attr.0 c.args.node.0 _ c.loop-code.slot.0 (own_then (g.W.Words.held c.args.work.now) (g.W.Words.held c.loop-code.work) c.loop-code.invariant.on.on) c.loop-code.invariant.way

pub returns-clause-cell : goal.returns-clause-cell
returns-clause-cell g c = way_held (g.W.Words.held c.args.work.now) (g.W.Words.held c.loop-code.work) c.args.attr.0 c.args.node.0 _ c.loop-code.slot.0 c.loop-code.invariant.on c.loop-code.invariant.way

pub returns-in_err-slot-clause-cause : goal.returns-in_err-slot-clause-cause
returns-in_err-slot-clause-cause g c =
    if_none c.from_residual.result (attribute_word c.args.attr.0 c.args.node.0, ([], codes_in c.args.args, refl, (search rules, search rules, refl)), c.in_err-slot.ensures.cause)

pub returns-in_err-slot-2-clause-cause : goal.returns-in_err-slot-2-clause-cause
returns-in_err-slot-2-clause-cause g c =
    let d = g.W.Words.held c.args.work.now in
    let e = g.W.Words.held c.loop-code.work in
    let w = g.W.Words.held c.seek-in-Some.new.self in
    let k = argument_word c.loop-code.slot.0 c.in-Some.code in
    let next = way_key_next d.frame e.view w.view c.args.attr.0 c.args.node.0 c.args.args c.loop-code.place c.loop-code.slot.0 c.loop-code.invariant.way (own_then d e c.loop-code.invariant.on.on) c.seek-in-Some.ensures.on.on.kept c.in-Some.code 0 (search rules) (sym c.in-Some.ensures) in
    if_none c.from_residual-in_err-slot-2.result (k, next, missing_at d e w k c.loop-code.invariant.on c.in_err-slot-2.ensures.cause)

pub returns-clause-slot : goal.returns-clause-slot
returns-clause-slot g c = λ coded known m named.
    let d = g.W.Words.held c.args.work.now in
    let e = g.W.Words.held c.loop-code.work in
    way_ends d.frame e.view (own_then d e c.loop-code.invariant.on.on) named c.args.attr.0 c.args.node.0 c.args.args c.loop-code.place c.loop-code.slot.0 (search rules) c.loop-code.invariant.way

-- what is found is its cell, whether its nodes were known before or not
pub returns-clause-its : goal.returns-clause-its
returns-clause-its g c =
    let d = g.W.Words.held c.args.work.now in
    let e = g.W.Words.held c.loop-code.work in
    let own = own_then d e c.loop-code.invariant.on.on in (
      way_known d.frame e.view own c.args.attr.0 c.args.node.0 c.args.args c.loop-code.place c.loop-code.slot.0 (search rules) c.loop-code.invariant.way,
      λ m named. way_ends d.frame e.view own named c.args.attr.0 c.args.node.0 c.args.args c.loop-code.place c.loop-code.slot.0 (search rules) c.loop-code.invariant.way,
    )
