use Rattle.std.proofs.Common.{refl}
use Rattle.aspect_items.specs.Items.{seen_type}
use Rattle.jrag_reader.specs.Making.{target_on}
use Rattle.jrag_reader.specs.Parts.{top, token_in, type_in}
use Rattle.jrag_reader.specs.Stack.{seen_names, seen_pair, seen_token_and_code, tops}
use Rattle.jrag_reader.proofs.Taking.{handing, lacking}
use Rattle.jrag_reader.proofs.item_forms.take_collected.Goals as goal

pub returns-in_default : goal.returns-in_default
returns-in_default c =
    handing seen_names (target_on (tops c.args.parts.now.items)) _ (seen_pair seen_names seen_type) c.in_ok-target.target (tops c.take_target.new.parts.items) _ _ c.in_ok-target.ensures
    (lacking seen_type (top type_in (tops c.take_target.new.parts.items)) _ (seen_pair seen_names seen_type) _ _ (tops c.pop_type.new.parts.items) _ c.in_default.ensures c.misfit.ensures)

pub returns-in_default-pop_token : goal.returns-in_default-pop_token
returns-in_default-pop_token c =
    handing seen_names (target_on (tops c.args.parts.now.items)) _ (seen_pair seen_names seen_type) c.in_ok-target.target (tops c.take_target.new.parts.items) _ _ c.in_ok-target.ensures
    (handing seen_type (top type_in (tops c.take_target.new.parts.items)) _ (seen_pair seen_names seen_type) c.in-Ok.of (tops c.pop_type.new.parts.items) _ _ c.in-Ok.ensures
    (lacking seen_token_and_code (top token_in (tops c.pop_type.new.parts.items)) _ (seen_pair seen_names seen_type) _ _ (tops c.pop_token.new.parts.items) _ c.in_default-pop_token.ensures c.misfit-in_default-pop_token.ensures))

pub returns : goal.returns
returns c =
    handing seen_names (target_on (tops c.args.parts.now.items)) _ (seen_pair seen_names seen_type) c.in_ok-target.target (tops c.take_target.new.parts.items) _ _ c.in_ok-target.ensures
    (handing seen_type (top type_in (tops c.take_target.new.parts.items)) _ (seen_pair seen_names seen_type) c.in-Ok.of (tops c.pop_type.new.parts.items) _ _ c.in-Ok.ensures
    (handing seen_token_and_code (top token_in (tops c.pop_type.new.parts.items)) _ (seen_pair seen_names seen_type) c.in-Ok-pop_token._word (tops c.pop_token.new.parts.items) _ _ c.in-Ok-pop_token.ensures
    (refl, refl)))
