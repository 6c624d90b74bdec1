use Rattle.std.specs.Option.{option_map}
use Rattle.aspect_items.specs.Expressions.{seen_expr, seen_name}
use Rattle.aspect_items.specs.Items.{seen_circular, seen_signature, seen_type}
use Rattle.jrag_reader.specs.Making.{bodied_on, modified_on, typed_on}
use Rattle.jrag_reader.specs.Stack.{seen_pair, tops}
use Rattle.jrag_reader.proofs.Taking.{making, missing}
use Rattle.jrag_reader.proofs.item_forms.make_synthesized.Goals as goal

pub returns-in_default : goal.returns-in_default
returns-in_default c =
    making (seen_pair (option_map seen_expr) (option_map seen_circular)) (bodied_on (tops c.args.parts.now.items)) _ c.in_ok-bodied.bodied (tops c.take_bodied.new.parts.items) _ _ c.in_ok-bodied.ensures
    (missing (seen_pair (seen_pair seen_signature seen_name) seen_type) (typed_on (tops c.take_bodied.new.parts.items)) _ _ _ (tops c.take_typed.new.parts.items) _ c.in_default.ensures)

pub returns-in_default-take_modified : goal.returns-in_default-take_modified
returns-in_default-take_modified c =
    making (seen_pair (option_map seen_expr) (option_map seen_circular)) (bodied_on (tops c.args.parts.now.items)) _ c.in_ok-bodied.bodied (tops c.take_bodied.new.parts.items) _ _ c.in_ok-bodied.ensures
    (making (seen_pair (seen_pair seen_signature seen_name) seen_type) (typed_on (tops c.take_bodied.new.parts.items)) _ c.in-Ok.typed (tops c.take_typed.new.parts.items) _ _ c.in-Ok.ensures
    (missing (λ b. b) (modified_on (tops c.take_typed.new.parts.items)) _ _ _ (tops c.take_modified.new.parts.items) _ c.in_default-take_modified.ensures))

pub returns : goal.returns
returns c =
    making (seen_pair (option_map seen_expr) (option_map seen_circular)) (bodied_on (tops c.args.parts.now.items)) _ c.in_ok-bodied.bodied (tops c.take_bodied.new.parts.items) _ _ c.in_ok-bodied.ensures
    (making (seen_pair (seen_pair seen_signature seen_name) seen_type) (typed_on (tops c.take_bodied.new.parts.items)) _ c.in-Ok.typed (tops c.take_typed.new.parts.items) _ _ c.in-Ok.ensures
    (making (λ b. b) (modified_on (tops c.take_typed.new.parts.items)) _ (c.in-Ok-take_modified.lazy, c.in-Ok-take_modified.higher_order) (tops c.take_modified.new.parts.items) _ _ c.in-Ok-take_modified.ensures
    (c.say.ensures)))
