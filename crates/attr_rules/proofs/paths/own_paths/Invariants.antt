-- The lists of the equations so far.
use Rattle.std.proofs.Common.{take}
use Rattle.attr_rules.specs.Dispatching.{AreOwnPaths}
use Rattle.attr_rules.proofs.paths.own_paths.Given as goal

abbrev pub invariant-loop-i : goal.invariant-loop-i
invariant-loop-i l = AreOwnPaths l.classes (take l.i l.targets) l.lists.items
