use Rattle.std.proofs.Common.{arith}
use Rattle.ast_rules.proofs.Inheriting.{adds_item}
use Rattle.ast_rules.proofs.members.add_names.Goals as goal

pub loop-component-preserved : goal.loop-component-preserved
loop-component-preserved c = adds_item _ c.args.components.now c.loop-component.component-index c.loop-component.names _ c.in_ok-insert_name.ensures.names c.loop-component.invariant (omega arith)
