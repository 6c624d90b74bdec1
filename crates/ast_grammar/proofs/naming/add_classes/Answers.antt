use Rattle.std.proofs.Common.{arith}
use Rattle.ast_rules.specs.Written.{WrittenRule, seen_rule}
use Rattle.ast_grammar.proofs.Table.{names_turn, room_for}
use Rattle.ast_grammar.proofs.naming.add_classes.Goals as goal

pub add_name-requires : goal.add_name-requires
add_name-requires c = room_for seen_rule (λ (r : WrittenRule). r.name.text) c.args.rules.now c.args.names.now c.loop-rule.rule-index c.loop-rule.invariant (omega arith) c.requires

pub loop-rule-preserved : goal.loop-rule-preserved
loop-rule-preserved c =
    names_turn seen_rule (λ (r : WrittenRule). r.name.text) c.args.rules.now c.args.names.now c.loop-rule.rule-index c.rule-item.is (omega arith) c.in_ok-add_name.ensures c.loop-rule.invariant
