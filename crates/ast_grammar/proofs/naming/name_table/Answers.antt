use Rattle.std.proofs.Common.{[], ◌∷◌, arith}
use Rattle.names.specs.Among.{with_names}
use Rattle.ast_rules.specs.Naming.{names_of}
use Rattle.ast_rules.specs.Written.{seen_rules}
use Rattle.ast_grammar.proofs.Table.{table_done, table_turn, turn_room}
use Rattle.ast_grammar.proofs.naming.name_table.Goals as goal

pub add_components-requires : goal.add_components-requires
add_components-requires c = turn_room c.args.rules.now c.loop-rule.rule-index c.rule-item.result c.rule-item.is (omega arith) c.requires c.deref.ensures.value c.loop-rule.invariant

pub loop-rule-preserved : goal.loop-rule-preserved
loop-rule-preserved c =
    let rules = seen_rules c.args.rules.now in
    table_turn c.args.rules.now c.loop-rule.rule-index c.rule-item.result c.rule-item.is (omega arith) (with_names ([] ∷ []) (names_of rules)) c.deref.ensures.value c.in_ok-add_components.ensures c.loop-rule.invariant

pub returns : goal.returns
returns c = table_done c.args.rules.now c.loop-rule.rule-index (omega arith) c.loop-rule.invariant
