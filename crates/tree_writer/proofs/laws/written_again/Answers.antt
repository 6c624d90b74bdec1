use Rattle.tree_writer.proofs.Whole.{read_again}
use Rattle.tree_writer.proofs.laws.written_again.Goals as goal

pub returns : goal.returns
returns c = λ g pool grammar pooled writable term. read_again g pool grammar (λ k d within. (grammar.classes k d within).spelled) pooled writable term
