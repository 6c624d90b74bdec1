-- The attributes so far.
use Rattle.std.proofs.Common.{length}
use Rattle.attr_rules.proofs.NamedAttributes.{SoFar}
use Rattle.attr_rules.proofs.attributes.numbered.Given as goal

abbrev pub invariant-loop-attribute : goal.invariant-loop-attribute
invariant-loop-attribute l = SoFar l.names l.kept.items l.list l.attribute-index (length l.fn.names)
