use Rattle.std.proofs.Common.{◌≡◌, ◌<◌, [], Ok, Some, length, refl, sym, ap, subst, ◌∙◌}
use Rattle.equation_law.specs.declared.system.System.{System}
use Rattle.equation_law.specs.Codes.{ByEachNaming}
use Rattle.equation_law.specs.Equations.{offers_below}
use Rattle.equation_law.specs.Reading.{IsSound}
use Rattle.equation_law.specs.Systems.{program_of}
use Rattle.equation_law.proofs.Grown.{grows_itself}
use Rattle.expr_eval.specs.Saved.{AreSaved}
use Rattle.expr_eval.specs.declared.sites.Turn.TheVariants as turns
use Rattle.memo_cells.specs.Working.{Held, told_by}
use Rattle.collection_attrs.specs.Roots.{IsRootOf, IsRootless}
use Rattle.collection_attrs.specs.Surveys.{Collections, IsCollectorOf, IsSurveyed}
use Rattle.collection_attrs.proofs.Surveying.{rootless}
use Rattle.caller_pass.specs.Leaving.{AreLeft}
use Rattle.caller_pass.proofs.Collecting.{collected, survey_left, survey_taken, walk_for_each, walk_known, walk_told}
use Rattle.caller_pass.proofs.resuming.resume_collection.Goals as goal

pub root_for-requires : goal.root_for-requires
root_for-requires c = subst (λ (s : System). (x : Collections) × IsCollectorOf (program_of s) c.args.of x) (sym c.requires.same) (c.requires.collection.0, c.requires.collection.2)

pub returns-in_default-clause-evaluates : goal.returns-in_default-clause-evaluates
returns-in_default-clause-evaluates c =
    let p = program_of c.args.system.now in
    let d = c.args.desk.now in
    let k = c.requires.collection.0 in
    let its = c.requires.collection.2 in
    let none : ByEachNaming p (λ names. (k names).offers ≡ []) = subst (λ (s : System). IsRootless (program_of s) c.args.of) c.requires.same c.in_default.ensures.none k its in
    collected p c.args.i k (Ok (turns.Done c.into_value.result)) d d d c.root_for.new.self c.requires.collection.1 refl c.root_for.ensures.same
    (rootless (grows_itself c.requires.sound) its (λ names in_it. none names (c.requires.sound.named names in_it)) c.new-none.ensures c.into_value.result c.into_value.ensures)

pub returns-in_default-clause-left : goal.returns-in_default-clause-left
returns-in_default-clause-left c = subst (λ (d : Held). AreLeft c.args.system.now (told_by d) c.args.i c.args.left.now) (sym c.root_for.ensures.same) c.requires.left

pub take_walk-offers-requires : goal.take_walk-offers-requires
take_walk-offers-requires c = subst (λ (d : Held). c.in-Some.root < length (program_of d.frame.system.value).tree) (sym c.root_for.ensures.same) c.in-Some.ensures.within

pub go_on-turn-requires-clause-sound : goal.go_on-turn-requires-clause-sound
go_on-turn-requires-clause-sound c = subst (λ (d : Held). IsSound (program_of c.args.system.now) (told_by d)) (sym (c.take_walk-offers.ensures.same ∙ c.root_for.ensures.same)) c.requires.sound

pub go_on-turn-requires-clause-walk : goal.go_on-turn-requires-clause-walk
go_on-turn-requires-clause-walk c =
    let same = ap (λ (d : Held). d.frame.system.value) c.root_for.ensures.same ∙ c.requires.same in
    walk_told c.args.system.now c.root_for.new.self c.take_walk-offers.new.self c.take_walk-offers.result same c.take_walk-offers.ensures.same c.take_walk-offers.ensures.walk

pub go_on-turn-requires-clause-collection : goal.go_on-turn-requires-clause-collection
go_on-turn-requires-clause-collection c =
    let p = program_of c.args.system.now in
    let k = c.requires.collection.0 in
    let its = c.requires.collection.2 in
    let a = c.args.of.attr.0 in
    let root = c.in-Some.root in
    let below : ByEachNaming p (λ names. (k names).offers ≡ offers_below p a (Some root)) = subst (λ (s : System). IsRootOf (program_of s) c.args.of root) c.requires.same c.in-Some.ensures.some k its in
    let gone = survey_taken p c.args.desk.now c.requires.sound c.args.i c.args.of k c.args.left.now.survey c.take_survey-gone.result c.requires.collection.1 its c.take_survey-gone.ensures.own c.take_survey-gone.ensures.new c.requires.left.survey in (
      k,
      its,
      walk_for_each p c.take_walk-offers.new.self (subst (λ (d : Held). IsSound p (told_by d)) (sym (c.take_walk-offers.ensures.same ∙ c.root_for.ensures.same)) c.requires.sound) k c.take_walk-offers.result a root below c.take_walk-offers.ensures.of.0 c.take_walk-offers.ensures.of.1,
      subst (λ (d : Held). IsSurveyed p (told_by d) k c.take_survey-gone.result) (sym (c.take_walk-offers.ensures.same ∙ c.root_for.ensures.same)) gone,
    )

pub go_on-turn-requires-clause-saved : goal.go_on-turn-requires-clause-saved
go_on-turn-requires-clause-saved c = subst (λ (d : Held). AreSaved c.args.system.now (told_by d) c.args.left.now.saved) (sym (c.take_walk-offers.ensures.same ∙ c.root_for.ensures.same)) c.requires.left.saved

pub put_walk-requires : goal.put_walk-requires
put_walk-requires c =
    let p = program_of c.args.system.now in
    let k = c.requires.collection.0 in
    let its = c.requires.collection.2 in
    walk_known p c.go_on-turn.new.reader c.go_on-turn.new.offers (c.go_on-turn.ensures.evaluates k its).kept.sound.for.0 c.go_on-turn.ensures.walk

pub returns-clause-evaluates : goal.returns-clause-evaluates
returns-clause-evaluates c =
    let p = program_of c.args.system.now in
    let k = c.requires.collection.0 in
    let its = c.requires.collection.2 in
    let before = c.take_walk-offers.ensures.same ∙ c.root_for.ensures.same in
    collected p c.args.i k c.go_on-turn.result c.args.desk.now c.take_walk-offers.new.self c.go_on-turn.new.reader c.put_walk.new.self c.requires.collection.1 before c.put_walk.ensures (c.go_on-turn.ensures.evaluates k its)

pub returns-clause-left : goal.returns-clause-left
returns-clause-left c =
    let p = program_of c.args.system.now in
    let k = c.requires.collection.0 in
    let its = c.requires.collection.2 in
    let d = c.go_on-turn.new.reader in
    let gone = survey_left p d (c.go_on-turn.ensures.evaluates k its).kept.sound c.args.i k c.go_on-turn.new.self c.requires.collection.1 (c.go_on-turn.ensures.survey k its) in
    record {
      saved = subst (λ (d : Held). AreSaved c.args.system.now (told_by d) c.go_on-turn.new.saved) (sym c.put_walk.ensures) c.go_on-turn.ensures.saved;
      survey = λ x is. subst (λ (h : Held). IsSurveyed p (told_by h) x c.go_on-turn.new.self) (sym c.put_walk.ensures) (gone x is);
    }
