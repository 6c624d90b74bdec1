use Rattle.std.proofs.Common.{map}
use Rattle.std.specs.Prelude.{Vec}
use Rattle.std.specs.declared.alloc.Global.{Global}
use Rattle.aspect_items.specs.declared.items.Item.{Item as KeptItem}
use Rattle.aspect_items.specs.Expressions.{seen_name}
use Rattle.aspect_items.specs.Items.{seen_item}
use Rattle.jrag_reader.specs.Parts.{top, token_in, name_in, items_in}
use Rattle.jrag_reader.specs.Stack.{seen_token_and_code, tops}
use Rattle.jrag_reader.proofs.Taking.{making}
use Rattle.jrag_reader.proofs.item_forms.make_open.Goals as goal

pub returns : goal.returns
returns c =
    making seen_token_and_code (top token_in (tops c.args.parts.now.items)) _ c.in_ok-_brace._brace (tops c.pop_token.new.parts.items) _ _ c.in_ok-_brace.ensures
    (making seen_name (top name_in (tops c.pop_token.new.parts.items)) _ c.in_ok-_name._name (tops c.pop_name.new.parts.items) _ _ c.in_ok-_name.ensures
    (making seen_token_and_code (top token_in (tops c.pop_name.new.parts.items)) _ c.in_ok-_word._word (tops c.pop_token-2.new.parts.items) _ _ c.in_ok-_word.ensures
    (making (λ (v : Vec KeptItem Global). map seen_item v.items) (top items_in (tops c.pop_token-2.new.parts.items)) _ c.in_ok-items.items (tops c.pop_items.new.parts.items) _ _ c.in_ok-items.ensures
    (c.say.ensures))))
