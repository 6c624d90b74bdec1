use Rattle.std.proofs.Common.{sym, subst}
use Rattle.tree_arena.specs.Terms.{IsTree}
use Rattle.equation_law.specs.declared.system.System.{System}
use Rattle.equation_law.specs.Systems.{program_of}
use Rattle.made_trees.proofs.Nodes.{past_child}
use Rattle.made_trees.proofs.keeping.child_of.Goals as goal

pub returns-in_default-clause-child : goal.returns-in_default-clause-child
returns-in_default-clause-child g c high =
    let T = g.K.KeepsMakers.trees c.args.keeper.now in
    let tree : IsTree (program_of T.system).tree = subst (λ (s : System). IsTree (program_of s).tree) (sym c.requires) (subst IsTree c.tree.ensures c.len-nodes.ensures.tree) in
    past_child T c.spot_among.ensures.trees c.args.node.0 c.args.component tree high c.in_default.ensures.spot
