use Rattle.std.proofs.Common.{◌≡◌, ap, map, rules, subst, sym, take, ◌∙◌}
use Rattle.attr_scope.specs.Seen.{seen_given}
use Rattle.attr_heads.specs.Targets.{given_broken, target_given, target_or_first}
use Rattle.attr_heads.specs.TargetsKept.{Holds}
use Rattle.attr_scope.proofs.Gathering.{makes_more}
use Rattle.attr_scope.proofs.Seen.{notes_each_after_seen, taken}
use Rattle.attr_heads.proofs.TargetsNoted.{given_noted}
use Rattle.attr_heads.proofs.targets.note_targets.Goals as goal

pub loop-equation-preserved : goal.loop-equation-preserved
loop-equation-preserved c =
    let g = c.args.grammar.now in
    let attributes = c.args.attributes.now.attributes in
    let xs = c.args.equations.now in
    let i = c.loop-equation.equation-index in
    let before = take i (map seen_given xs) in
    let e = seen_given c.equation-item.result in
    let held = c.loop-equation.invariant.held in
    let target = c.in_ok-target.ensures.target in
    record {
      noted = notes_each_after_seen seen_given xs i (given_broken g attributes) c.equation-item.is c.loop-equation-test.true c.loop-equation.invariant.noted
          (given_noted g attributes before e target c.in_ok-target.ensures.noted (c.in_ok-check_second.ensures.noted g attributes before held));
      held = subst (λ zs. Holds g attributes zs c.check_second.new.given) (sym (taken seen_given xs i c.equation-item.is c.loop-equation-test.true)) (c.in_ok-check_second.ensures.held g attributes before e held target);
      targets =
          let made : c.target_or_first.result ≡ target_given g attributes e = c.target_or_first.ensures ∙ ap target_or_first target in
          search (rules, makes_more);
    }
