use Rattle.std.specs.Option.{option_map}
use Rattle.aspect_items.specs.Expressions.{seen_expr, seen_name}
use Rattle.jrag_reader.specs.Making.{contributor_on, received_on, value_on}
use Rattle.jrag_reader.specs.Stack.{seen_names, seen_pair, tops}
use Rattle.jrag_reader.proofs.Taking.{making, missing}
use Rattle.jrag_reader.proofs.item_forms.make_contribution.Goals as goal

pub returns-in_default : goal.returns-in_default
returns-in_default c =
    making (seen_pair seen_expr seen_names) (received_on (tops c.args.parts.now.items)) _ c.in_ok-received.received (tops c.take_received.new.parts.items) _ _ c.in_ok-received.ensures
    (missing (seen_pair (option_map seen_expr) seen_expr) (value_on (tops c.take_received.new.parts.items)) _ _ _ (tops c.take_value.new.parts.items) _ c.in_default.ensures)

pub returns-in_default-take_contributor : goal.returns-in_default-take_contributor
returns-in_default-take_contributor c =
    making (seen_pair seen_expr seen_names) (received_on (tops c.args.parts.now.items)) _ c.in_ok-received.received (tops c.take_received.new.parts.items) _ _ c.in_ok-received.ensures
    (making (seen_pair (option_map seen_expr) seen_expr) (value_on (tops c.take_received.new.parts.items)) _ c.in-Ok.contributed (tops c.take_value.new.parts.items) _ _ c.in-Ok.ensures
    (missing seen_name (contributor_on (tops c.take_value.new.parts.items)) _ _ _ (tops c.take_contributor.new.parts.items) _ c.in_default-take_contributor.ensures))

pub returns : goal.returns
returns c =
    making (seen_pair seen_expr seen_names) (received_on (tops c.args.parts.now.items)) _ c.in_ok-received.received (tops c.take_received.new.parts.items) _ _ c.in_ok-received.ensures
    (making (seen_pair (option_map seen_expr) seen_expr) (value_on (tops c.take_received.new.parts.items)) _ c.in-Ok.contributed (tops c.take_value.new.parts.items) _ _ c.in-Ok.ensures
    (making seen_name (contributor_on (tops c.take_value.new.parts.items)) _ c.in-Ok-take_contributor.contributor (tops c.take_contributor.new.parts.items) _ _ c.in-Ok-take_contributor.ensures
    (c.say.ensures)))
