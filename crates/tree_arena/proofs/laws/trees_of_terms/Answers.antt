use Rattle.std.proofs.Common.{refl}
use Rattle.tree_arena.proofs.AccessorsTrees.{roots_are, term_alone, tree_alone, tree_there, tree_within, trees_follow}
use Rattle.tree_arena.proofs.laws.trees_of_terms.Goals as goal

pub returns-clause-one : goal.returns-clause-one
returns-clause-one c = term_alone

pub returns-clause-there : goal.returns-clause-there
returns-clause-there c = λ term n. (tree_there term n, λ found. tree_within term n found.0 found.1)

pub returns-clause-alone : goal.returns-clause-alone
returns-clause-alone c = tree_alone

pub returns-clause-follow : goal.returns-clause-follow
returns-clause-follow c = λ term n d sub is within. trees_follow term n sub d _ is within refl

pub returns-clause-roots : goal.returns-clause-roots
returns-clause-roots c = roots_are
