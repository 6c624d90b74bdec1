use Rattle.std.specs.Option.{option_map}
use Rattle.aspect_items.specs.Expressions.{seen_expr, seen_name}
use Rattle.aspect_items.specs.Items.{seen_signature}
use Rattle.jrag_reader.specs.Making.{attribute_on, equated_on}
use Rattle.jrag_reader.specs.Parts.{top, token_in}
use Rattle.jrag_reader.specs.Stack.{seen_pair, seen_token_and_code, tops}
use Rattle.jrag_reader.proofs.Taking.{making, missing}
use Rattle.jrag_reader.proofs.item_forms.make_equation.Goals as goal

pub returns-in_default : goal.returns-in_default
returns-in_default c =
    making (seen_pair seen_expr (option_map seen_signature)) (equated_on (tops c.args.parts.now.items)) _ c.in_ok-equated.equated (tops c.take_equated.new.parts.items) _ _ c.in_ok-equated.ensures
    (missing (seen_pair seen_signature seen_name) (attribute_on (tops c.take_equated.new.parts.items)) _ _ _ (tops c.take_attribute.new.parts.items) _ c.in_default.ensures)

pub returns-in_default-pop_token : goal.returns-in_default-pop_token
returns-in_default-pop_token c =
    making (seen_pair seen_expr (option_map seen_signature)) (equated_on (tops c.args.parts.now.items)) _ c.in_ok-equated.equated (tops c.take_equated.new.parts.items) _ _ c.in_ok-equated.ensures
    (making (seen_pair seen_signature seen_name) (attribute_on (tops c.take_equated.new.parts.items)) _ c.in-Ok.attribute (tops c.take_attribute.new.parts.items) _ _ c.in-Ok.ensures
    (missing seen_token_and_code (top token_in (tops c.take_attribute.new.parts.items)) _ _ _ (tops c.pop_token.new.parts.items) _ c.in_default-pop_token.ensures))

pub returns : goal.returns
returns c =
    making (seen_pair seen_expr (option_map seen_signature)) (equated_on (tops c.args.parts.now.items)) _ c.in_ok-equated.equated (tops c.take_equated.new.parts.items) _ _ c.in_ok-equated.ensures
    (making (seen_pair seen_signature seen_name) (attribute_on (tops c.take_equated.new.parts.items)) _ c.in-Ok.attribute (tops c.take_attribute.new.parts.items) _ _ c.in-Ok.ensures
    (making seen_token_and_code (top token_in (tops c.take_attribute.new.parts.items)) _ c.in-Ok-pop_token._word (tops c.pop_token.new.parts.items) _ _ c.in-Ok-pop_token.ensures
    (c.say.ensures)))
