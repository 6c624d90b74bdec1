-- A name has its value, or there is none of this number.
use Rattle.std.proofs.Common.{◌<◌, ◌≤◌, arith, length, refl, sym, ◌∙◌}
use Rattle.std.proofs.lemmas.Bool.{ltb-false, ltb-true}
use Rattle.std.proofs.lemmas.Option.{slice_get_past, slice_get_read}
use Rattle.expr_eval.proofs.Names.{named_nowhere, named_there}
use Rattle.expr_eval.proofs.parts.variable.Goals as goal

pub returns-in-Some : goal.returns-in-Some
returns-in-Some c n =
    let names = c.args.context.now.names.now in
    let within : c.args.number < length names = ltb-true c.args.number (length names) (sym c.in-Some.ensures.lookup.0) in
    c.from.ensures n ∙ named_there n names c.args.number c.in-Some.value.now (slice_get_read names (length names) c.args.number c.in-Some.value.now refl within c.in-Some.ensures.lookup.1)

pub returns-in-None : goal.returns-in-None
returns-in-None c n =
    let names = c.args.context.now.names.now in
    let past : length names ≤ c.args.number = omega (arith, ltb-false c.args.number (length names) (sym c.in-None.ensures.lookup.0)) in
    named_nowhere n names c.args.number (slice_get_past names c.args.number past)
