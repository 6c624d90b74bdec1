use Rattle.std.proofs.Common.{◌<◌, ◌≤◌, arith, get_or, length, refl, sym}
use Rattle.std.proofs.lemmas.Option.{get_or_from_slice_get, slice_get-get_or}
use Rattle.rag_io.specs.declared.token.Place.{Place}
use Rattle.broken_rules.specs.Notes.{each_from}
use Rattle.broken_rules.proofs.Exits.{ends_with}
use Rattle.broken_rules.proofs.Noting.{ends_of, notes_all_from, notes_each_from}
use Rattle.attr_coverage.specs.Completeness.{lacking}
use Rattle.attr_coverage.proofs.completeness.check_attributes.Goals as goal

pub loop-i-preserved : goal.loop-i-preserved
loop-i-preserved c = λ targets known made has.
    let places = c.args.places.now in
    let i = c.loop-i.i in
    let within : i < length places = omega arith in
    let place : Place = get_or places i (record { line = 0; column = 0 }) in
    notes_each_from (lacking c.args.grammar.now c.args.attributes.now.attributes targets made) places i
    (sym (get_or_from_slice_get places i place place (slice_get-get_or places i (record { line = 0; column = 0 }) within))) within (c.loop-i.invariant targets known made has) (c.in_ok-check_attribute.ensures targets known made has)

pub returns : goal.returns
returns c = λ targets known made has.
    let places = c.args.places.now in
    let all : length places ≤ c.loop-i.i = omega arith in
    let notes = notes_all_from (lacking c.args.grammar.now c.args.attributes.now.attributes targets made) places places c.loop-i.i refl (c.loop-i.invariant targets known made has) all in
    let first = ends_of c.new-faults.ensures notes refl in
    ends_with (each_from (lacking c.args.grammar.now c.args.attributes.now.attributes targets made) 0 places) c.loop-i.faults c.answer.result c.answer.ensures first
