use Rattle.std.proofs.Common.{◌≡◌, ◌∙◌, IfNone, IfSome, Option, Some, arith, length, refl, subst, sym}
use Rattle.equation_law.specs.declared.coding.Instance.{Instance as CodedInstance}
use Rattle.equation_law.specs.Equations.{offers_below}
use Rattle.equation_law.specs.Systems.{program_of}
use Rattle.equation_law.specs.Values.{Value}
use Rattle.expr_eval.specs.Evaluating.{Comes}
use Rattle.equation_law.proofs.Grown.{grows_itself, grows_on}
use Rattle.collection_attrs.specs.Evaluations.{IsStuckAt, demands_of}
use Rattle.collection_attrs.specs.Surveys.{HasCounted, IsPassage}
use Rattle.collection_attrs.proofs.Grown.{counted_grows, surveyed_grows, walk_grows}
use Rattle.collection_attrs.proofs.Known.{copied_known}
use Rattle.collection_attrs.proofs.Surveying.{comes_for, counted_ends, counted_same, counted_stuck, fitted, for_same, passed_within, surveyed_for, wants_for}
use Rattle.collection_attrs.proofs.surveys.Survey.go_on.Goals as goal

pub offers-init : goal.offers-init
offers-init g c =
    let p = program_of c.args.system.now in
    let t = g.R.Reader.tells c.args.reader.now in
    let begun = fitted p t c.requires.sound c.requires.collection.1 c.args.self.now c.fit.new.self c.args.offers.now c.fit.ensures c.requires.collection.3 in
    record {
      kept = grows_itself c.requires.sound;
      walk = c.requires.walk;
      same = (refl, refl);
      survey = surveyed_for c.requires.sound c.requires.collection.1 begun.0;
      within = begun.1;
      saved = c.requires.saved;
    }

pub count_kept-requires-clause-collection : goal.count_kept-requires-clause-collection
count_kept-requires-clause-collection g c =
    let p = program_of c.args.system.now in
    let i = c.offers.invariant in
    let d = c.requires.collection.0 in
    let of = c.requires.collection.1 in
    (d, of, for_same p d c.args.offers.now c.offers.offers i.kept i.same.0 i.same.1 c.requires.collection.2, i.survey d of)

pub returns-in_err-instance-clause-walk : goal.returns-in_err-instance-clause-walk
returns-in_err-instance-clause-walk g c =
    walk_grows c.count_kept.ensures.kept c.offers.invariant.walk

pub returns-in-Some-clause-walk : goal.returns-in-Some-clause-walk
returns-in-Some-clause-walk g c =
    walk_grows c.count_kept.ensures.kept c.offers.invariant.walk

pub pass_next-requires-clause-walk : goal.pass_next-requires-clause-walk
pass_next-requires-clause-walk g c =
    walk_grows c.count_kept.ensures.kept c.offers.invariant.walk

pub returns-in-Some-clause-evaluates : goal.returns-in-Some-clause-evaluates
returns-in-Some-clause-evaluates g c =
    let p = program_of c.args.system.now in
    let i = c.offers.invariant in
    let counting = c.count_kept.ensures in
    let stop = subst (λ (o : Option CodedInstance). IfSome o (IsStuckAt p (g.R.Reader.tells c.count_kept.new.reader) c.args.of)) c.in-Some.is c.in_ok-instance.ensures.stuck in
    λ x is. record { kept = grows_on i.kept counting.kept; answer = record { wants = stop.2 x is; coded = stop.0; known = stop.1 } }

pub returns-in_err-pass_next-clause-survey : goal.returns-in_err-pass_next-clause-survey
returns-in_err-pass_next-clause-survey g c =
    λ x is. surveyed_grows c.pass_next.ensures.kept (c.count_kept.ensures.survey x is)

pub returns-in-Stuck-clause-survey : goal.returns-in-Stuck-clause-survey
returns-in-Stuck-clause-survey g c =
    λ x is. surveyed_grows c.pass_next.ensures.kept (c.count_kept.ensures.survey x is)

pub returns-in_err-copy-in-Ended-clause-survey : goal.returns-in_err-copy-in-Ended-clause-survey
returns-in_err-copy-in-Ended-clause-survey g c =
    λ x is. surveyed_grows c.pass_next.ensures.kept (c.count_kept.ensures.survey x is)

pub returns-in-Ended-clause-survey : goal.returns-in-Ended-clause-survey
returns-in-Ended-clause-survey g c =
    λ x is. surveyed_grows c.pass_next.ensures.kept (c.count_kept.ensures.survey x is)

pub offers-smaller : goal.offers-smaller
offers-smaller g c =
    let p = program_of c.args.system.now in
    let w = c.offers.offers in
    let u = c.pass_next.new.offers in
    let same = c.pass_next.ensures.same in
    let less = subst (IsPassage p (g.R.Reader.tells c.pass_next.new.reader) w u) c.in-Passed.is c.in_ok-pass_next.ensures.passage in
    let within = passed_within p u c.pass_next.ensures.walk.stands in
    let all : length (offers_below p u.attribute (Some u.root)) ≡ length (offers_below p w.attribute (Some w.root)) = (λ i. length (offers_below p (same.0 i) (Some (same.1 i)))) in
    omega (arith, less, within, all)

pub offers-preserved : goal.offers-preserved
offers-preserved g c =
    let i = c.offers.invariant in
    let counting = c.count_kept.ensures in
    let passing = c.pass_next.ensures in
    record {
      kept = grows_on (grows_on i.kept counting.kept) passing.kept;
      walk = passing.walk;
      same = (passing.same.0 ∙ i.same.0, passing.same.1 ∙ i.same.1);
      survey = λ x is. surveyed_grows passing.kept (counting.survey x is);
      within = (let a = counting.within in let b = passing.same.2 in omega (arith, a, b));
      saved = passing.saved;
    }

pub returns-in-Stuck-clause-evaluates : goal.returns-in-Stuck-clause-evaluates
returns-in-Stuck-clause-evaluates g c =
    let p = program_of c.args.system.now in
    let t = g.R.Reader.tells c.pass_next.new.reader in
    let i = c.offers.invariant in
    let d = c.requires.collection.0 in
    let of = c.requires.collection.1 in
    let w = c.offers.offers in
    let counting = c.count_kept.ensures in
    let u = c.pass_next.new.offers in
    let passing = c.pass_next.ensures in
    let same = passing.same in
    let s = c.count_kept.new.self in
    let kept = grows_on (grows_on i.kept counting.kept) passing.kept in
    let counted = subst (λ (o : Option CodedInstance). IfNone o (HasCounted p (g.R.Reader.tells c.count_kept.new.reader) c.args.of w s)) c.in_default.is c.in_ok-instance.ensures.counted in
    let for = for_same p d w u (grows_on counting.kept passing.kept) same.0 same.1 (for_same p d c.args.offers.now w i.kept i.same.0 i.same.1 c.requires.collection.2) in
    let stop = subst (IsPassage p t w u) c.in-Stuck.is c.in_ok-pass_next.ensures.passage in
    let h = counted_stuck p t d kept.sound u passing.walk for s (counted_same p t d w u s stop.0 (counted_grows passing.kept (counted d of))) c.in-Stuck.instance stop.3 in
    λ x is. record { kept = kept; answer = record { wants = wants_for kept.sound of c.in-Stuck.instance h x is; coded = stop.1; known = stop.2 } }

pub returns-in-Ended-clause-evaluates : goal.returns-in-Ended-clause-evaluates
returns-in-Ended-clause-evaluates g c =
    let p = program_of c.args.system.now in
    let t = g.R.Reader.tells c.pass_next.new.reader in
    let i = c.offers.invariant in
    let d = c.requires.collection.0 in
    let of = c.requires.collection.1 in
    let w = c.offers.offers in
    let counting = c.count_kept.ensures in
    let u = c.pass_next.new.offers in
    let passing = c.pass_next.ensures in
    let same = passing.same in
    let s = c.count_kept.new.self in
    let kept = grows_on (grows_on i.kept counting.kept) passing.kept in
    let counted = subst (λ (o : Option CodedInstance). IfNone o (HasCounted p (g.R.Reader.tells c.count_kept.new.reader) c.args.of w s)) c.in_default.is c.in_ok-instance.ensures.counted in
    let for = for_same p d w u (grows_on counting.kept passing.kept) same.0 same.1 (for_same p d c.args.offers.now w i.kept i.same.0 i.same.1 c.requires.collection.2) in
    let stop = subst (IsPassage p t w u) c.in-Ended.is c.in_ok-pass_next.ensures.passage in
    let all = counted_same p t d w u s stop.0 (counted_grows passing.kept (counted d of)) in
    let h = counted_ends p t d kept.sound u passing.walk for s all stop.1 in
    let copy = c.in_ok-copy-in-Ended.ensures in
    λ x is. record {
      kept = kept;
      answer = record {
        comes = λ names in_it. subst (λ (v : Value). Comes t.has (demands_of p x names) v) (sym (copy.same names)) (comes_for kept.sound of s.so_far h x is names in_it);
        coded = copy.elements p all.coded;
        known = copied_known kept.sound s.so_far _ copy.same all.known;
      };
    }
