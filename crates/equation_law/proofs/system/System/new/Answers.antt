use Rattle.equation_law.proofs.Preordered.{none_counted}
use Rattle.equation_law.proofs.system.System.new.Goals as goal

pub invariant_of-result-clause-whole : goal.invariant_of-result-clause-whole
invariant_of-result-clause-whole c = none_counted c.args.tree c.len-2.ensures.tree
