use Rattle.std.proofs.Common.{arith}
use Rattle.std.proofs.lemmas.List.{get_or_default}
use Rattle.ast_rules.specs.Written.{WrittenComponent, seen_component}
use Rattle.ast_grammar.proofs.Table.{names_turn, room_for}
use Rattle.ast_grammar.proofs.naming.add_components.Goals as goal

pub add_name-requires : goal.add_name-requires
add_name-requires c = room_for seen_component (λ (x : WrittenComponent). x.name.text) c.args.components.now c.args.names.now c.loop-component.component-index c.loop-component.invariant (omega arith) c.requires

pub loop-component-preserved : goal.loop-component-preserved
loop-component-preserved c =
    names_turn seen_component (λ (x : WrittenComponent). x.name.text) c.args.components.now c.args.names.now c.loop-component.component-index (get_or_default c.args.components.now c.loop-component.component-index _ _ (omega arith)) (omega arith) c.in_ok-add_name.ensures c.loop-component.invariant
