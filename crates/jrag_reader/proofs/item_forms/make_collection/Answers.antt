use Rattle.std.specs.Option.{option_map}
use Rattle.rag_io.specs.Tokens.{seen_token}
use Rattle.aspect_items.specs.Expressions.{seen_expr, seen_name}
use Rattle.aspect_items.specs.Items.{seen_type}
use Rattle.jrag_reader.specs.Making.{collected_on, enclosed_on, with_root_on}
use Rattle.jrag_reader.specs.Stack.{seen_names, seen_pair, tops}
use Rattle.jrag_reader.proofs.Taking.{making, missing}
use Rattle.jrag_reader.proofs.item_forms.make_collection.Goals as goal

pub returns-in_default : goal.returns-in_default
returns-in_default c =
    making (seen_pair (option_map seen_name) (option_map seen_name)) (with_root_on (tops c.args.parts.now.items)) _ c.in_ok-with_root.with_root (tops c.take_with_root.new.parts.items) _ _ c.in_ok-with_root.ensures
    (missing (seen_pair seen_token seen_expr) (enclosed_on (tops c.take_with_root.new.parts.items)) _ _ _ (tops c.take_enclosed.new.parts.items) _ c.in_default.ensures)

pub returns-in_default-take_collected : goal.returns-in_default-take_collected
returns-in_default-take_collected c =
    making (seen_pair (option_map seen_name) (option_map seen_name)) (with_root_on (tops c.args.parts.now.items)) _ c.in_ok-with_root.with_root (tops c.take_with_root.new.parts.items) _ _ c.in_ok-with_root.ensures
    (making (seen_pair seen_token seen_expr) (enclosed_on (tops c.take_with_root.new.parts.items)) _ (c.in-Ok._open, c.in-Ok.fresh) (tops c.take_enclosed.new.parts.items) _ _ c.in-Ok.ensures
    (missing (seen_pair seen_names seen_type) (collected_on (tops c.take_enclosed.new.parts.items)) _ _ _ (tops c.take_collected.new.parts.items) _ c.in_default-take_collected.ensures))

pub returns : goal.returns
returns c =
    making (seen_pair (option_map seen_name) (option_map seen_name)) (with_root_on (tops c.args.parts.now.items)) _ c.in_ok-with_root.with_root (tops c.take_with_root.new.parts.items) _ _ c.in_ok-with_root.ensures
    (making (seen_pair seen_token seen_expr) (enclosed_on (tops c.take_with_root.new.parts.items)) _ (c.in-Ok._open, c.in-Ok.fresh) (tops c.take_enclosed.new.parts.items) _ _ c.in-Ok.ensures
    (making (seen_pair seen_names seen_type) (collected_on (tops c.take_enclosed.new.parts.items)) _ c.in-Ok-take_collected.collected (tops c.take_collected.new.parts.items) _ _ c.in-Ok-take_collected.ensures
    (c.say.ensures)))
