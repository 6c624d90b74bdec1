use Rattle.tree_arena.proofs.AccessorsOnce.{one_term}
use Rattle.tree_arena.proofs.laws.one_term.Goals as goal

pub returns : goal.returns
returns c = one_term
