-- A tree as it is made: its nodes without where their tokens lie in memory.
use Rattle.tree_arena.specs.Nodes.{Node}
use Rattle.tree_arena.specs.declared.tree.FirstNode.{FirstNode}

abbrev pub node_of : FirstNode → Node
node_of x = record { class = x.class; parent = x.parent; component = x.component; tokens = x.tokens }
