use Rattle.std.proofs.Common.{take}
use Rattle.ast_rules.specs.Members.{Inherits}
use Rattle.ast_rules.specs.Written.{seen_rules}
use Rattle.ast_rules.proofs.members.inherit.Given as goal

abbrev pub invariant-loop-number : goal.invariant-loop-number
invariant-loop-number l = Inherits (seen_rules l.rules) (take l.number-index l.number-items) l.inherited.names l.inherited.count
