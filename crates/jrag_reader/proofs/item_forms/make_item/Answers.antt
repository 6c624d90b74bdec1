use Rattle.std.proofs.Common.{map}
use Rattle.std.specs.Prelude.{Vec}
use Rattle.std.specs.declared.alloc.Global.{Global}
use Rattle.aspect_items.specs.declared.items.Item.{Item as KeptItem}
use Rattle.aspect_items.specs.Items.{seen_item}
use Rattle.jrag_reader.specs.Parts.{top, item_in, opened_in}
use Rattle.jrag_reader.specs.Stack.{tops}
use Rattle.jrag_reader.proofs.Taking.{making, missing}
use Rattle.jrag_reader.proofs.item_forms.make_item.Goals as goal

pub returns-in_default : goal.returns-in_default
returns-in_default c =
    making seen_item (top item_in (tops c.args.parts.now.items)) _ c.in_ok-item.item (tops c.pop_item.new.parts.items) _ _ c.in_ok-item.ensures
    (missing (λ (v : Vec KeptItem Global). map seen_item v.items) (top opened_in (tops c.pop_item.new.parts.items)) _ _ _ (tops c.pop_opened.new.parts.items) _ c.in_default.ensures)
