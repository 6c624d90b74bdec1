use Rattle.std.proofs.Common.{refl}
use Rattle.std.specs.Option.{option_map}
use Rattle.aspect_items.specs.Expressions.{seen_name}
use Rattle.jrag_reader.specs.Parts.{top, token_in, perhaps_named_in}
use Rattle.jrag_reader.specs.Stack.{seen_pair, seen_token_and_code, tops}
use Rattle.jrag_reader.proofs.Taking.{handing, lacking}
use Rattle.jrag_reader.proofs.item_forms.take_with_root.Goals as goal

pub returns-in_default : goal.returns-in_default
returns-in_default c =
    handing seen_token_and_code (top token_in (tops c.args.parts.now.items)) _ (seen_pair (option_map seen_name) (option_map seen_name)) c.in_ok-_semicolon._semicolon (tops c.pop_token.new.parts.items) _ _ c.in_ok-_semicolon.ensures
    (handing (option_map seen_name) (top perhaps_named_in (tops c.pop_token.new.parts.items)) _ (seen_pair (option_map seen_name) (option_map seen_name)) c.in_ok-root.root (tops c.pop_perhaps_named.new.parts.items) _ _ c.in_ok-root.ensures
    (lacking (option_map seen_name) (top perhaps_named_in (tops c.pop_perhaps_named.new.parts.items)) _ (seen_pair (option_map seen_name) (option_map seen_name)) _ _ (tops c.pop_perhaps_named-2.new.parts.items) _ c.in_default.ensures c.misfit.ensures))

pub returns : goal.returns
returns c =
    handing seen_token_and_code (top token_in (tops c.args.parts.now.items)) _ (seen_pair (option_map seen_name) (option_map seen_name)) c.in_ok-_semicolon._semicolon (tops c.pop_token.new.parts.items) _ _ c.in_ok-_semicolon.ensures
    (handing (option_map seen_name) (top perhaps_named_in (tops c.pop_token.new.parts.items)) _ (seen_pair (option_map seen_name) (option_map seen_name)) c.in_ok-root.root (tops c.pop_perhaps_named.new.parts.items) _ _ c.in_ok-root.ensures
    (handing (option_map seen_name) (top perhaps_named_in (tops c.pop_perhaps_named.new.parts.items)) _ (seen_pair (option_map seen_name) (option_map seen_name)) c.in-Ok.method (tops c.pop_perhaps_named-2.new.parts.items) _ _ c.in-Ok.ensures
    (refl, refl)))
