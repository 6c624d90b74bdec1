use Rattle.std.proofs.Common.{ap, subst, sym}
use Rattle.equation_law.specs.Systems.{program_of}
use Rattle.equation_law.proofs.Grown.{grows_on}
use Rattle.collection_attrs.specs.Walks.{IsWalk, Walk}
use Rattle.collection_attrs.proofs.Found.{walk_for_each}
use Rattle.collection_attrs.proofs.Grown.{survey_new}
use Rattle.collection_attrs.proofs.Surveying.{rootless}
use Rattle.collection_attrs.proofs.Walked.{walk_begins}
use Rattle.collection_attrs.proofs.evaluating.collect.Goals as goal

pub returns-in_default : goal.returns-in_default
returns-in_default g c =
    let found = c.in_default.ensures in
    λ x is. rootless found.kept is (found.offers x is) c.new-survey.ensures c.into_value.result c.into_value.ensures

pub go_on-requires-clause-sound : goal.go_on-requires-clause-sound
go_on-requires-clause-sound g c = c.in-Some.ensures.kept.sound

pub go_on-requires-clause-walk : goal.go_on-requires-clause-walk
go_on-requires-clause-walk g c =
    let p = program_of c.args.system.now in
    let t = g.R.Reader.tells c.root_of.new.reader in
    subst (λ (w : Walk). IsWalk p t w) (sym c.new-offers.ensures) (walk_begins p t c.args.of.attr.0 c.in-Some.root c.in-Some.ensures.within)

pub go_on-requires-clause-collection : goal.go_on-requires-clause-collection
go_on-requires-clause-collection g c =
    let p = program_of c.args.system.now in
    let t = g.R.Reader.tells c.root_of.new.reader in
    let found = c.in-Some.ensures in
    let d = c.requires.collection.0 in
    let of = c.requires.collection.1 in
    let for = walk_for_each p t d c.new-offers.result c.args.of.attr.0 c.in-Some.root (ap (λ (w : Walk). w.attribute) c.new-offers.ensures) (ap (λ (w : Walk). w.root) c.new-offers.ensures) (found.offers d of) in
    (d, of, for, survey_new t found.kept.sound of c.new-survey.ensures)

pub returns : goal.returns
returns g c = λ x is.
    let h = c.go_on.ensures.evaluates x is in
    record { kept = grows_on c.in-Some.ensures.kept h.kept; answer = h.answer }
