-- A value has its place, or there is none.
use Rattle.std.proofs.Common.{◌≡◌, ◌<◌, ◌≤◌, arith, length, List, map, refl, subst, sym, ◌∙◌}
use Rattle.std.proofs.lemmas.Bool.{ltb-false, ltb-true}
use Rattle.std.proofs.lemmas.Option.{slice_get_past, slice_get_read}
use Rattle.equation_law.specs.declared.coding.Single.{Single as CodedSingle}
use Rattle.equation_law.specs.Codes.{single_by}
use Rattle.equation_law.specs.Meaning.{named}
use Rattle.equation_law.specs.Names.{Null}
use Rattle.equation_law.specs.Values.{Node}
use Rattle.expr_eval.proofs.Names.{named_nowhere, named_there}
use Rattle.expr_eval.proofs.accessors.Singles.get.Goals as goal

pub returns-in-Some : goal.returns-in-Some
returns-in-Some c = λ n.
    let values = c.deref.result.now in
    let within : c.args.place < length values = ltb-true c.args.place (length values) (sym c.in-Some.ensures.lookup.0) in
    subst (λ (xs : List CodedSingle). single_by n c.in-Some.value.now ≡ named (map (single_by n) xs) c.args.place) (c.deref.ensures.value ∙ c.self.view_is)
    (named_there n values c.args.place c.in-Some.value.now (slice_get_read values (length values) c.args.place c.in-Some.value.now refl within c.in-Some.ensures.lookup.1))

pub returns-in-None : goal.returns-in-None
returns-in-None c = λ n.
    let values = c.deref.result.now in
    let past : length values ≤ c.args.place = omega (arith, ltb-false c.args.place (length values) (sym c.in-None.ensures.lookup.0)) in
    subst (λ (xs : List CodedSingle). Node Null ≡ named (map (single_by n) xs) c.args.place) (c.deref.ensures.value ∙ c.self.view_is) (named_nowhere n values c.args.place (slice_get_past values c.args.place past))
