use Rattle.std.specs.Option.{option_map}
use Rattle.aspect_items.specs.Expressions.{seen_name}
use Rattle.aspect_items.specs.Items.{seen_circular, seen_signature, seen_type}
use Rattle.jrag_reader.specs.Making.{flagged_on, typed_on}
use Rattle.jrag_reader.specs.Parts.{top, token_in, circularity_in}
use Rattle.jrag_reader.specs.Stack.{seen_pair, seen_token_and_code, tops}
use Rattle.jrag_reader.proofs.Taking.{making, missing}
use Rattle.jrag_reader.proofs.item_forms.make_inherited.Goals as goal

pub returns-in_default : goal.returns-in_default
returns-in_default c =
    making seen_token_and_code (top token_in (tops c.args.parts.now.items)) _ c.in_ok-_semicolon._semicolon (tops c.pop_token.new.parts.items) _ _ c.in_ok-_semicolon.ensures
    (making (option_map seen_circular) (top circularity_in (tops c.pop_token.new.parts.items)) _ c.in_ok-circular.circular (tops c.pop_circularity.new.parts.items) _ _ c.in_ok-circular.ensures
    (missing (seen_pair (seen_pair seen_signature seen_name) seen_type) (typed_on (tops c.pop_circularity.new.parts.items)) _ _ _ (tops c.take_typed.new.parts.items) _ c.in_default.ensures))

pub returns-in_default-take_flagged : goal.returns-in_default-take_flagged
returns-in_default-take_flagged c =
    making seen_token_and_code (top token_in (tops c.args.parts.now.items)) _ c.in_ok-_semicolon._semicolon (tops c.pop_token.new.parts.items) _ _ c.in_ok-_semicolon.ensures
    (making (option_map seen_circular) (top circularity_in (tops c.pop_token.new.parts.items)) _ c.in_ok-circular.circular (tops c.pop_circularity.new.parts.items) _ _ c.in_ok-circular.ensures
    (making (seen_pair (seen_pair seen_signature seen_name) seen_type) (typed_on (tops c.pop_circularity.new.parts.items)) _ c.in-Ok.typed (tops c.take_typed.new.parts.items) _ _ c.in-Ok.ensures
    (missing (λ b. b) (flagged_on (tops c.take_typed.new.parts.items)) _ _ _ (tops c.take_flagged.new.parts.items) _ c.in_default-take_flagged.ensures)))

pub returns : goal.returns
returns c =
    making seen_token_and_code (top token_in (tops c.args.parts.now.items)) _ c.in_ok-_semicolon._semicolon (tops c.pop_token.new.parts.items) _ _ c.in_ok-_semicolon.ensures
    (making (option_map seen_circular) (top circularity_in (tops c.pop_token.new.parts.items)) _ c.in_ok-circular.circular (tops c.pop_circularity.new.parts.items) _ _ c.in_ok-circular.ensures
    (making (seen_pair (seen_pair seen_signature seen_name) seen_type) (typed_on (tops c.pop_circularity.new.parts.items)) _ c.in-Ok.typed (tops c.take_typed.new.parts.items) _ _ c.in-Ok.ensures
    (making (λ b. b) (flagged_on (tops c.take_typed.new.parts.items)) _ c.in-Ok-take_flagged.lazy (tops c.take_flagged.new.parts.items) _ _ c.in-Ok-take_flagged.ensures
    (c.say.ensures))))
