-- The equations so far are put.
use Rattle.std.proofs.Common.{take}
use Rattle.attr_rules.proofs.CoveringSteps.{PutsChildren}
use Rattle.attr_rules.proofs.covering.put_children.Given as goal

abbrev pub invariant-loop-path : goal.invariant-loop-path
invariant-loop-path l = PutsChildren (take l.path-index l.paths) l.fn.children l.children
