use Rattle.attr_scope.specs.Written.{contributed_in}
use Rattle.attr_scope.proofs.Gathering.{Gathers}
use Rattle.attr_scope.specs.Seen.{seen_offer}
use Rattle.aspect_items.specs.Items.{seen_item}
use Rattle.attr_scope.proofs.written.contributions.Given as goal

abbrev pub invariant-loop-item : goal.invariant-loop-item
invariant-loop-item l = Gathers seen_offer contributed_in seen_item l.items l.item-index l.list.items
