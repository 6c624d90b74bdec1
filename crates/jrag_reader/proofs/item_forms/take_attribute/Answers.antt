use Rattle.std.proofs.Common.{refl}
use Rattle.aspect_items.specs.Expressions.{seen_name}
use Rattle.aspect_items.specs.Items.{seen_signature}
use Rattle.jrag_reader.specs.Making.{class_on, signature_on}
use Rattle.jrag_reader.specs.Stack.{seen_pair, tops}
use Rattle.jrag_reader.proofs.Taking.{handing, lacking}
use Rattle.jrag_reader.proofs.item_forms.take_attribute.Goals as goal

pub returns-in_default : goal.returns-in_default
returns-in_default c =
    handing seen_signature (signature_on (tops c.args.parts.now.items)) _ (seen_pair seen_signature seen_name) c.in_ok-signature.signature (tops c.take_signature.new.parts.items) _ _ c.in_ok-signature.ensures
    (lacking seen_name (class_on (tops c.take_signature.new.parts.items)) _ (seen_pair seen_signature seen_name) _ _ (tops c.take_class.new.parts.items) _ c.in_default.ensures c.misfit.ensures)

pub returns : goal.returns
returns c =
    handing seen_signature (signature_on (tops c.args.parts.now.items)) _ (seen_pair seen_signature seen_name) c.in_ok-signature.signature (tops c.take_signature.new.parts.items) _ _ c.in_ok-signature.ensures
    (handing seen_name (class_on (tops c.take_signature.new.parts.items)) _ (seen_pair seen_signature seen_name) c.in-Ok.class (tops c.take_class.new.parts.items) _ _ c.in-Ok.ensures
    (refl, refl))
