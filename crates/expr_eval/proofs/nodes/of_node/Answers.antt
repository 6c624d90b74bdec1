use Rattle.expr_eval.proofs.MadeNodes.{cast_read, child_read, has_read, instance_read, no_cast_read, node_said}
use Rattle.expr_eval.proofs.nodes.of_node.Goals as goal

pub returns-in-Child : goal.returns-in-Child
returns-in-Child g c = node_said c.in-Child.is (child_read c.child_of.ensures)

pub returns-in-Has : goal.returns-in-Has
returns-in-Has g c = node_said c.in-Has.is (has_read c.source.result c.child_of-in-Has.ensures c.source.ensures c.is_some.ensures)

pub returns-then-is_of : goal.returns-then-is_of
returns-then-is_of g c = node_said c.in-Cast.is (cast_read c.is_of.ensures c.if-is_of.true c.requires.known)

pub returns-else-is_of : goal.returns-else-is_of
returns-else-is_of g c = node_said c.in-Cast.is (no_cast_read c.is_of.ensures c.if-is_of.false)

pub returns-in-InstanceOf : goal.returns-in-InstanceOf
returns-in-InstanceOf g c = node_said c.in-InstanceOf.is (instance_read c.is_of-in-InstanceOf.ensures)
