use Rattle.std.proofs.Common.{ℕ, subst}
use Rattle.tree_writer.specs.Showing.{IsSubtreeAt}
use Rattle.rag_tests.proofs.OtherCodes.{number_again}
use Rattle.rag_tests.proofs.shown.CountedShowsNodes.child.Goals as goal

pub returns-clause-child : goal.returns-clause-child
returns-clause-child c = λ tree child shown at.
    subst (λ (n : ℕ). IsSubtreeAt c.child.new.self.0.now n child) (number_again c.child.result) (c.child.ensures.child tree child shown at)
