use Rattle.std.proofs.Common.{refl}
use Rattle.aspect_items.specs.Expressions.{seen_name}
use Rattle.aspect_items.specs.Items.{seen_signature, seen_type}
use Rattle.jrag_reader.specs.Making.{attribute_on}
use Rattle.jrag_reader.specs.Parts.{top, type_in}
use Rattle.jrag_reader.specs.Stack.{seen_pair, tops}
use Rattle.jrag_reader.proofs.Taking.{handing, lacking}
use Rattle.jrag_reader.proofs.item_forms.take_typed.Goals as goal

pub returns-in_default : goal.returns-in_default
returns-in_default c =
    handing (seen_pair seen_signature seen_name) (attribute_on (tops c.args.parts.now.items)) _ (seen_pair (seen_pair seen_signature seen_name) seen_type) c.in_ok-attribute.attribute (tops c.take_attribute.new.parts.items) _ _ c.in_ok-attribute.ensures
    (lacking seen_type (top type_in (tops c.take_attribute.new.parts.items)) _ (seen_pair (seen_pair seen_signature seen_name) seen_type) _ _ (tops c.pop_type.new.parts.items) _ c.in_default.ensures c.misfit.ensures)

pub returns : goal.returns
returns c =
    handing (seen_pair seen_signature seen_name) (attribute_on (tops c.args.parts.now.items)) _ (seen_pair (seen_pair seen_signature seen_name) seen_type) c.in_ok-attribute.attribute (tops c.take_attribute.new.parts.items) _ _ c.in_ok-attribute.ensures
    (handing seen_type (top type_in (tops c.take_attribute.new.parts.items)) _ (seen_pair (seen_pair seen_signature seen_name) seen_type) c.in-Ok.of (tops c.pop_type.new.parts.items) _ _ c.in-Ok.ensures
    (refl, refl))
