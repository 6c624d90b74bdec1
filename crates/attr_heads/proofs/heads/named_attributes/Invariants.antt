use Rattle.attr_heads.specs.Heads.{attribute_of}
use Rattle.attr_rules.specs.KeptAttributes.{seen_attribute}
use Rattle.attr_scope.proofs.Gathering.{Makes}
use Rattle.attr_scope.specs.Seen.{seen_head}
use Rattle.attr_heads.proofs.heads.named_attributes.Given as goal

abbrev pub invariant-loop-head : goal.invariant-loop-head
invariant-loop-head l = Makes seen_attribute (attribute_of l.grammar) seen_head l.heads l.head-index l.list.items
