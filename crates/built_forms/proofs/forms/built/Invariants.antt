use Rattle.std.proofs.Common.{◌≡◌, drop, map}
use Rattle.built_forms.specs.Built.{all_built}
use Rattle.aspect_items.specs.Items.{seen_item}
use Rattle.built_forms.proofs.forms.built.Given as goal

-- the items that are left decide
abbrev pub invariant-loop-item : goal.invariant-loop-item
invariant-loop-item l = all_built (map seen_item l.item-items) ≡ all_built (map seen_item (drop l.item-index l.item-items))
