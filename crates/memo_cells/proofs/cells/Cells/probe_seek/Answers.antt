use Rattle.std.proofs.Common.{rules, ℕ, ◌∷◌, ap, ◌∙◌}
use Rattle.memo_cells.specs.Views.{key_word_at}
use Rattle.memo_cells.proofs.Causes.{found_before, found_one, log_one, log_then}
use Rattle.memo_cells.proofs.More.{at_least_then, other_later, others_more, passed_on}
use Rattle.memo_cells.proofs.cells.Cells.probe_seek.Goals as goal

pub returns-then-seen-key-clause-kept : goal.returns-then-seen-key-clause-kept
returns-then-seen-key-clause-kept c = at_least_then c.loop-place.invariant.1 c.look_key-seen.ensures.kept

pub returns-then-seen-key-clause-claims : goal.returns-then-seen-key-clause-claims
returns-then-seen-key-clause-claims c = c.look_key-seen.ensures.seen.claims ∙ c.loop-place.invariant.3

pub returns-then-seen-eq0-clause-kept : goal.returns-then-seen-eq0-clause-kept
returns-then-seen-eq0-clause-kept c = at_least_then c.loop-place.invariant.1 c.look_key-seen.ensures.kept

pub returns-then-seen-key-clause-log : goal.returns-then-seen-key-clause-log
returns-then-seen-key-clause-log c = log_then c.loop-place.invariant.4 (log_one c.look_key-seen.ensures.seen.log)

pub returns-then-seen-eq0-clause-searched : goal.returns-then-seen-eq0-clause-searched
returns-then-seen-eq0-clause-searched c =
    let passed = passed_on c.args.self.now c.args.pass.now c.loop-place.pass c.args.key c.args.from c.args.to c.loop-place.place c.requires.led c.loop-place.invariant.1 c.loop-place.invariant.2 (search rules) (search rules) in (
      c.look_key-seen.ensures.seen.nowhere c.if-seen-eq0.true c.args.key c.requires.key passed,
      record {
        place = c.loop-place.place;
        inside = search rules;
        found = found_before c.loop-place.invariant.4 (found_one (c.look_key-seen.ensures.seen.log ∙ ap (λ (x : ℕ). (key_word_at c.loop-place.place, x) ∷ c.loop-place.pass.found) c.if-seen-eq0.true));
        passed = λ q way. other_later c.loop-place.pass c.look_key-seen.new.pass c.args.key q c.look_key-seen.ensures.kept (passed q way);
      },
    )

pub returns-then-seen-eq0-clause-log : goal.returns-then-seen-eq0-clause-log
returns-then-seen-eq0-clause-log c = log_then c.loop-place.invariant.4 (log_one c.look_key-seen.ensures.seen.log)

pub returns-then-seen-eq0-clause-claims : goal.returns-then-seen-eq0-clause-claims
returns-then-seen-eq0-clause-claims c = c.look_key-seen.ensures.seen.claims ∙ c.loop-place.invariant.3

pub loop-place-preserved : goal.loop-place-preserved
loop-place-preserved c = (
  c.look_key-seen.ensures.own,
  at_least_then c.loop-place.invariant.1 c.look_key-seen.ensures.kept,
  others_more c.loop-place.pass c.look_key-seen.new.pass c.args.key c.args.from c.loop-place.place c.look_key-seen.result c.loop-place.invariant.2 c.look_key-seen.ensures.kept
      (c.look_key-seen.ensures.seen.claimed c.if-seen-eq0.false) c.if-seen-eq0.false c.if-seen-key.false,
  c.look_key-seen.ensures.seen.claims ∙ c.loop-place.invariant.3,
  log_then c.loop-place.invariant.4 (log_one c.look_key-seen.ensures.seen.log),
)
