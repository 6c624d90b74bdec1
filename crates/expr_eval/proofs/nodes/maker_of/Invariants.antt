-- The node stands beside the one that was asked for, and the way from it is shorter.
use Rattle.std.proofs.Common.{◌<◌}
use Rattle.tree_arena.specs.Nodes.{most_nodes}
use Rattle.equation_law.specs.Codes.{reference_by}
use Rattle.equation_law.specs.Reading.{ByEachIn, Grows}
use Rattle.equation_law.specs.Systems.{program_of}
use Rattle.expr_eval.proofs.MadeNodes.{AreBeside}
use Rattle.expr_eval.proofs.nodes.maker_of.Given as goal

abbrev pub invariant-above : goal.invariant-above
invariant-above g l =
    let p = program_of l.system in
    Grows p (g.R.Reader.tells l.initial.reader) (g.R.Reader.tells l.reader) × (most_nodes < l.at.0) × ByEachIn (g.R.Reader.tells l.reader) (λ n. AreBeside p (reference_by n.node l.fn.node.0) (reference_by n.node l.at.0))
    × (g.R.Reader.tells l.reader).knows l.at.0

abbrev pub decreases-above : goal.decreases-above
decreases-above g l = (g.R.Reader.tells l.reader).height l.at.0
