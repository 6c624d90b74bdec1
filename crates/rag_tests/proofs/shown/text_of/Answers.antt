use Rattle.std.proofs.Common.{ℕ, length, subst}
use Rattle.tree_writer.specs.Parts.{HasSubtree}
use Rattle.tree_writer.specs.Showing.{IsSubtreeAt}
use Rattle.tree_writer.proofs.SourceTrees.{source_node}
use Rattle.rag_tests.proofs.OtherCodes.{number_again}
use Rattle.rag_tests.proofs.shown.text_of.Goals as goal

pub add_subtree-requires : goal.add_subtree-requires
add_subtree-requires c =
    subst (λ (n : ℕ). HasSubtree c.args.grammar.now (length c.args.pool.now) (IsSubtreeAt c.args.tree.now) n) (number_again c.args.n)
    (source_node c.requires.tree c.args.n c.requires.node)
