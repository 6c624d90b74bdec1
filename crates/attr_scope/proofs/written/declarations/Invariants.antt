use Rattle.attr_scope.specs.Written.{declared_in}
use Rattle.attr_scope.proofs.Gathering.{Gathers}
use Rattle.attr_scope.specs.Seen.{seen_head}
use Rattle.aspect_items.specs.Items.{seen_item}
use Rattle.attr_scope.proofs.written.declarations.Given as goal

abbrev pub invariant-loop-item : goal.invariant-loop-item
invariant-loop-item l = Gathers seen_head declared_in seen_item l.items l.item-index l.list.items
