-- The equations so far are kept.
use Rattle.std.proofs.Common.{take}
use Rattle.attr_rules.specs.Dispatching.{KeepsNamed}
use Rattle.attr_rules.proofs.covering.keep_named.Given as goal

abbrev pub invariant-loop-path : goal.invariant-loop-path
invariant-loop-path l = KeepsNamed l.children (take l.path-index l.paths) l.fn.named l.named
