-- The names so far, and what was noted for them. An arm of `?` in a loop keeps its clauses behind a `Unit`, which `search` doesn't read: so they are given.
use Rattle.std.proofs.Common.{take, arith, refl}
use Rattle.names.proofs.Known.{knows_more, numbers_more}
use Rattle.ast_rules.proofs.Known.{again_noted}
use Rattle.ast_rules.proofs.Seen.{index_seen, item_seen, notes_each_after_seen}
use Rattle.ast_rules.specs.Naming.{again_broken}
use Rattle.ast_rules.specs.Written.{WrittenRule, seen_rule, seen_rules}
use Rattle.ast_rules.proofs.naming.collect_names.Goals as goal

pub loop-rule-preserved : goal.loop-rule-preserved
loop-rule-preserved c =
    let i = c.loop-rule.rule-index in
    let xs = c.args.rules.now in
    let known = c.loop-rule.invariant.names in
    let name = λ (r : WrittenRule). r.name.text in
    let is = item_seen seen_rule xs i c.rule-item.is in
    let lt = index_seen seen_rule xs i (omega arith) in
    record {
      noted = notes_each_after_seen seen_rule xs i again_broken c.rule-item.is (omega arith) c.loop-rule.invariant.noted (again_noted (take i (seen_rules xs)) (seen_rule c.rule-item.result) c.in_ok-is_new.ensures.added refl known c.note_if.ensures);
      names = knows_more name (seen_rules xs) i is lt refl c.in_ok-is_new.ensures.names known;
      numbers = numbers_more name (seen_rules xs) i is lt refl c.in_ok-is_new.ensures.names known c.loop-rule.invariant.numbers;
    }
