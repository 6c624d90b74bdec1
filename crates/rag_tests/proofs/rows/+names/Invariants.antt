-- What makes a node stands in front of the row that has the node.
use Rattle.std.proofs.Common.{◌+◌, ◌*◌, length}
use Rattle.rag_tests.proofs.rows.+names.Given as goal

abbrev pub decreases-node_name : goal.decreases-node_name
decreases-node_name a = 4 * length a.before.now

abbrev pub decreases-argument_name : goal.decreases-argument_name
decreases-argument_name a = 4 * length a.before.now + 1

abbrev pub decreases-argument_names : goal.decreases-argument_names
decreases-argument_names a = 4 * length a.before.now + 2

abbrev pub decreases-row_name : goal.decreases-row_name
decreases-row_name a = 4 * length a.before.now + 3
