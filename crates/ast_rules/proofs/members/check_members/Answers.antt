use Rattle.std.proofs.Common.{arith, sym, None}
use Rattle.ast_rules.specs.Members.{class_broken, members_broken}
use Rattle.ast_rules.specs.Written.{seen_rule, seen_rules}
use Rattle.broken_rules.proofs.Exits.{ends_passed}
use Rattle.ast_rules.proofs.Seen.{index_seen, item_seen, notes_each_from_seen}
use Rattle.ast_rules.proofs.Stopping.{stops}
use Rattle.ast_rules.proofs.members.check_members.Goals as goal

pub returns-in_err-first_of_class : goal.returns-in_err-first_of_class
returns-in_err-first_of_class c =
    let rules = seen_rules c.args.rules.now in
    let i = c.loop-i.i in
    let e = c.in_err-first_of_class.field-0.0 in
    ends_passed (members_broken rules c.args.superclasses.now) c.from_residual.result e c.from_residual.ensures.1
    (stops rules c.args.superclasses.now c.requires i (seen_rule c.index-rules-i.result) (index_seen seen_rule c.args.rules.now i (omega arith)) (item_seen seen_rule c.args.rules.now i c.index-rules-i.is) e c.loop-i.invariant c.in_err-first_of_class.ensures)

pub loop-i-preserved : goal.loop-i-preserved
loop-i-preserved c =
    sym (notes_each_from_seen seen_rule c.args.rules.now c.loop-i.i (class_broken (seen_rules c.args.rules.now) c.args.superclasses.now) {a = None} {b = None} {c = None} c.index-rules-i.is (omega arith) (record { is = sym c.loop-i.invariant }) (record { is = sym c.in_ok-first_of_class.ensures })).is
