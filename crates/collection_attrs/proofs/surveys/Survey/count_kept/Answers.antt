use Rattle.std.proofs.Common.{◌<◌, arith, length, refl, suc, sym, subst}
use Rattle.attr_rules.specs.Rules.{RuleSet}
use Rattle.equation_law.specs.Systems.{program_of}
use Rattle.equation_law.proofs.Grown.{grows_itself, grows_on}
use Rattle.collection_attrs.specs.Surveys.{noted_in}
use Rattle.collection_attrs.proofs.Grown.{naming_of, survey_new, surveyed_grows, walk_grows}
use Rattle.collection_attrs.proofs.Outcomes.{comes_there, given, stopped, wants_there}
use Rattle.collection_attrs.proofs.Stepping.{at_rules, few_nodes, value_known}
use Rattle.collection_attrs.proofs.Surveying.{counted_for, counts_all, counts_not, counts_one, for_same, surveyed_for, wants_for}
use Rattle.collection_attrs.proofs.surveys.Survey.count_kept.Goals as goal

pub kept-init : goal.kept-init
kept-init g c = record {
  kept = grows_itself c.requires.sound;
  survey = surveyed_for c.requires.sound c.requires.collection.1 c.requires.collection.3;
  within = c.requires.within;
  saved = c.requires.saved;
}

pub entry-entry-requires : goal.entry-entry-requires
entry-entry-requires g c = c.in-Some.ensures.within.1

pub contribution-requires : goal.contribution-requires
contribution-requires g c =
    let note = c.requires.walk.notable c.in-Some.place (noted_in c.entry-entry.result) c.entry-entry.ensures in
    subst (λ (r : RuleSet). c.entry-entry.result.contribution < length r.contributions) (sym c.rules-rules.ensures) note.known

pub evaluate_part-requires-clause-known : goal.evaluate_part-requires-clause-known
evaluate_part-requires-clause-known g c =
    value_known (program_of c.args.system.now) c.rules-rules.ensures c.contribution.ensures

pub evaluate_part-requires-clause-few : goal.evaluate_part-requires-clause-few
evaluate_part-requires-clause-few g c = (c.requires.walk.notable c.in-Some.place (noted_in c.entry-entry.result) c.entry-entry.ensures).few

pub evaluate_part-requires-clause-node : goal.evaluate_part-requires-clause-node
evaluate_part-requires-clause-node g c =
    let p = program_of c.args.system.now in
    let n = noted_in c.entry-entry.result in
    let within = (c.requires.walk.notable c.in-Some.place n c.entry-entry.ensures).within in
    c.kept.invariant.kept.sound.sources (suc n.node) (omega (arith, within, few_nodes p c.tree.ensures c.len.ensures.number c.len.ensures.few))

pub returns-in_err-value-clause-survey : goal.returns-in_err-value-clause-survey
returns-in_err-value-clause-survey g c =
    let p = program_of c.args.system.now in
    let at = at_rules p c.rules-rules.ensures c.contribution.ensures in
    let step = c.in_err-value.ensures.evaluates at.contribution.value at.value in
    λ d of. surveyed_grows step.kept (c.kept.invariant.survey d of)

pub count-requires-clause-so_far : goal.count-requires-clause-so_far
count-requires-clause-so_far g c = (c.kept.invariant.survey c.requires.collection.0 c.requires.collection.1).coded

pub kept-smaller : goal.kept-smaller
kept-smaller g c =
    let inside = c.in-Some.ensures.within in
    (let a = inside.0 in let b = inside.1 in let e = c.in_ok-count-in-Done.ensures.counted.0 in omega (arith, a, b, e))

pub kept-preserved : goal.kept-preserved
kept-preserved g c =
    let p = program_of c.args.system.now in
    let i = c.kept.invariant in
    let w = c.args.offers.now in
    let d = c.requires.collection.0 in
    let of = c.requires.collection.1 in
    let place = c.in-Some.place in
    let n = noted_in c.entry-entry.result in
    let there = c.entry-entry.ensures in
    let note = c.requires.walk.notable place n there in
    let at = at_rules p c.rules-rules.ensures c.contribution.ensures in
    let step = c.in_ok-value.ensures.evaluates at.contribution.value at.value in
    let done = given step c.in-Done.is in
    let counted = c.in_ok-count-in-Done.ensures.counted in
    let kept = grows_on i.kept step.kept in
    let few = few_nodes p c.tree.ensures c.len.ensures.number c.len.ensures.few in
    let within = note.within in
    let one = counts_one p (g.R.Reader.tells c.evaluate_part.new.reader) d step.kept.sound w (walk_grows kept c.requires.walk) (for_same p d w w kept refl refl c.requires.collection.2) c.kept.self of (surveyed_grows step.kept (i.survey d of)) i.within place c.in-Some.ensures.some n there at.contribution at.is c.count.new.self _ done.known counted.0 counted.1 counted.2
    (λ names in_it. comes_there p names at.contribution c.entry-entry.result.node ((naming_of step.kept.sound names in_it).sources c.entry-entry.result.node (omega (arith, within, few))) at.contribution.value (done.comes names in_it))
    in
    let inside = c.in-Some.ensures.within.1 in
    let taken = counted.0 in
    record { kept = kept; survey = surveyed_for step.kept.sound of one; within = omega (arith, inside, taken); saved = c.in_ok-value.ensures.saved }

pub returns-in_err-count-in-Done-clause-survey : goal.returns-in_err-count-in-Done-clause-survey
returns-in_err-count-in-Done-clause-survey g c =
    let p = program_of c.args.system.now in
    let at = at_rules p c.rules-rules.ensures c.contribution.ensures in
    let step = c.in_ok-value.ensures.evaluates at.contribution.value at.value in
    λ x is. survey_new (g.R.Reader.tells c.evaluate_part.new.reader) step.kept.sound is c.in_err-count-in-Done.ensures.anew

pub returns-in_err-count-in-Done-clause-within : goal.returns-in_err-count-in-Done-clause-within
returns-in_err-count-in-Done-clause-within g c =
    let none = c.in_err-count-in-Done.ensures.anew.taken in
    omega (arith, none)

pub returns-in-Need-clause-survey : goal.returns-in-Need-clause-survey
returns-in-Need-clause-survey g c =
    let p = program_of c.args.system.now in
    let at = at_rules p c.rules-rules.ensures c.contribution.ensures in
    let step = c.in_ok-value.ensures.evaluates at.contribution.value at.value in
    λ d of. surveyed_grows step.kept (c.kept.invariant.survey d of)

pub returns-in-Need-clause-stuck : goal.returns-in-Need-clause-stuck
returns-in-Need-clause-stuck g c =
    let p = program_of c.args.system.now in
    let i = c.kept.invariant in
    let w = c.args.offers.now in
    let d = c.requires.collection.0 in
    let of = c.requires.collection.1 in
    let place = c.in-Some.place in
    let n = noted_in c.entry-entry.result in
    let there = c.entry-entry.ensures in
    let note = c.requires.walk.notable place n there in
    let at = at_rules p c.rules-rules.ensures c.contribution.ensures in
    let step = c.in_ok-value.ensures.evaluates at.contribution.value at.value in
    let stop = stopped step c.in-Need.is in
    let kept = grows_on i.kept step.kept in
    let few = few_nodes p c.tree.ensures c.len.ensures.number c.len.ensures.few in
    let within = note.within in (
      stop.coded,
      stop.known,
      wants_for step.kept.sound of c.in-Need.instance
          (counts_not p (g.R.Reader.tells c.evaluate_part.new.reader) d step.kept.sound w (walk_grows kept c.requires.walk) (for_same p d w w kept refl refl c.requires.collection.2) c.kept.self of (surveyed_grows step.kept (i.survey d of)) i.within place c.in-Some.ensures.some n there at.contribution at.is c.in-Need.instance
          (λ names in_it. wants_there p names at.contribution c.entry-entry.result.node ((naming_of step.kept.sound names in_it).sources c.entry-entry.result.node (omega (arith, within, few))) at.contribution.value (stop.wants names in_it))),
    )

pub returns-clause-counted : goal.returns-clause-counted
returns-clause-counted g c =
    let p = program_of c.args.system.now in
    let i = c.kept.invariant in
    let d = c.requires.collection.0 in
    let of = c.requires.collection.1 in
    let w = c.args.offers.now in
    counted_for i.kept.sound of (counts_all p (g.R.Reader.tells c.kept.reader) d i.kept.sound w (walk_grows i.kept c.requires.walk) (for_same p d w w i.kept refl refl c.requires.collection.2) c.kept.self of (i.survey d of) i.within c.in_default.ensures.none)
