use Rattle.aspect_items.specs.Items.{seen_signature}
use Rattle.jrag_reader.specs.Making.{signature_on}
use Rattle.jrag_reader.specs.Parts.{top, token_in}
use Rattle.jrag_reader.specs.Stack.{seen_token_and_code, tops}
use Rattle.jrag_reader.proofs.Taking.{making, missing}
use Rattle.jrag_reader.proofs.item_forms.make_path.Goals as goal

pub returns-in_default : goal.returns-in_default
returns-in_default c =
    making seen_signature (signature_on (tops c.args.parts.now.items)) _ c.in_ok-signature.signature (tops c.take_signature.new.parts.items) _ _ c.in_ok-signature.ensures
    (missing seen_token_and_code (top token_in (tops c.take_signature.new.parts.items)) _ _ _ (tops c.pop_token.new.parts.items) _ c.in_default.ensures)

pub returns : goal.returns
returns c =
    making seen_signature (signature_on (tops c.args.parts.now.items)) _ c.in_ok-signature.signature (tops c.take_signature.new.parts.items) _ _ c.in_ok-signature.ensures
    (making seen_token_and_code (top token_in (tops c.take_signature.new.parts.items)) _ c.in-Ok._dot (tops c.pop_token.new.parts.items) _ _ c.in-Ok.ensures
    (c.say.ensures))
