use Rattle.std.proofs.Common.{refl}
use Rattle.aspect_items.specs.Expressions.{seen_name}
use Rattle.jrag_reader.specs.Making.{class_on}
use Rattle.jrag_reader.specs.Parts.{top, token_in, name_in}
use Rattle.jrag_reader.specs.Stack.{seen_names, seen_token_and_code, tops}
use Rattle.jrag_reader.proofs.Taking.{handing, lacking}
use Rattle.jrag_reader.proofs.item_forms.take_target.Goals as goal

pub returns-in_default : goal.returns-in_default
returns-in_default c =
    handing seen_token_and_code (top token_in (tops c.args.parts.now.items)) _ seen_names c.in_ok-_close._close (tops c.pop_token.new.parts.items) _ _ c.in_ok-_close.ensures
    (handing seen_token_and_code (top token_in (tops c.pop_token.new.parts.items)) _ seen_names c.in_ok-_open._open (tops c.pop_token-2.new.parts.items) _ _ c.in_ok-_open.ensures
    (handing seen_name (top name_in (tops c.pop_token-2.new.parts.items)) _ seen_names c.in_ok-name.name (tops c.pop_name.new.parts.items) _ _ c.in_ok-name.ensures
    (lacking seen_name (class_on (tops c.pop_name.new.parts.items)) _ seen_names _ _ (tops c.take_class.new.parts.items) _ c.in_default.ensures c.misfit.ensures)))

pub returns : goal.returns
returns c =
    handing seen_token_and_code (top token_in (tops c.args.parts.now.items)) _ seen_names c.in_ok-_close._close (tops c.pop_token.new.parts.items) _ _ c.in_ok-_close.ensures
    (handing seen_token_and_code (top token_in (tops c.pop_token.new.parts.items)) _ seen_names c.in_ok-_open._open (tops c.pop_token-2.new.parts.items) _ _ c.in_ok-_open.ensures
    (handing seen_name (top name_in (tops c.pop_token-2.new.parts.items)) _ seen_names c.in_ok-name.name (tops c.pop_name.new.parts.items) _ _ c.in_ok-name.ensures
    (handing seen_name (class_on (tops c.pop_name.new.parts.items)) _ seen_names c.in-Ok.class (tops c.take_class.new.parts.items) _ _ c.in-Ok.ensures
    (refl, refl))))
