use Rattle.tree_writer.proofs.Whole.{read_back}
use Rattle.tree_writer.proofs.laws.subtree_read_back.Goals as goal

pub returns : goal.returns
returns c = λ g pool grammar pooled writable tree. read_back g pool grammar (λ k d within. (grammar.classes k d within).spelled) pooled writable tree
