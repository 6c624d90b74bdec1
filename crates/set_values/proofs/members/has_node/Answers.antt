use Rattle.std.proofs.Common.{sym, ◌∙◌}
use Rattle.set_values.proofs.NodeCodes.{has_node_by}
use Rattle.set_values.proofs.members.has_node.Goals as goal

pub returns : goal.returns
returns c = λ p n h. c.has.ensures ∙ sym (has_node_by n.node h.one_code c.args.node.0 c.args.codes.now c.requires)
