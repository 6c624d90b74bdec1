-- The lists of the classes so far.
use Rattle.std.proofs.Common.{[]}
use Rattle.attr_rules.specs.Dispatching.{AreOwnPaths}
use Rattle.attr_rules.proofs.paths.empty_lists.Given as goal

abbrev pub invariant-loop : goal.invariant-loop
invariant-loop l = AreOwnPaths l.counter [] l.lists.items
