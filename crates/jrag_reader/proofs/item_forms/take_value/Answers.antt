use Rattle.std.proofs.Common.{refl}
use Rattle.std.specs.Option.{option_map}
use Rattle.aspect_items.specs.Expressions.{seen_expr}
use Rattle.jrag_reader.specs.Parts.{top, token_in, expr_in, perhaps_in}
use Rattle.jrag_reader.specs.Stack.{seen_pair, seen_token_and_code, tops}
use Rattle.jrag_reader.proofs.Taking.{handing, lacking}
use Rattle.jrag_reader.proofs.item_forms.take_value.Goals as goal

pub returns-in_default : goal.returns-in_default
returns-in_default c =
    handing seen_token_and_code (top token_in (tops c.args.parts.now.items)) _ (seen_pair (option_map seen_expr) seen_expr) c.in_ok-_to._to (tops c.pop_token.new.parts.items) _ _ c.in_ok-_to.ensures
    (handing (option_map seen_expr) (top perhaps_in (tops c.pop_token.new.parts.items)) _ (seen_pair (option_map seen_expr) seen_expr) c.in_ok-condition.condition (tops c.pop_perhaps.new.parts.items) _ _ c.in_ok-condition.ensures
    (lacking seen_expr (top expr_in (tops c.pop_perhaps.new.parts.items)) _ (seen_pair (option_map seen_expr) seen_expr) _ _ (tops c.pop_expr.new.parts.items) _ c.in_default.ensures c.misfit.ensures))

pub returns : goal.returns
returns c =
    handing seen_token_and_code (top token_in (tops c.args.parts.now.items)) _ (seen_pair (option_map seen_expr) seen_expr) c.in_ok-_to._to (tops c.pop_token.new.parts.items) _ _ c.in_ok-_to.ensures
    (handing (option_map seen_expr) (top perhaps_in (tops c.pop_token.new.parts.items)) _ (seen_pair (option_map seen_expr) seen_expr) c.in_ok-condition.condition (tops c.pop_perhaps.new.parts.items) _ _ c.in_ok-condition.ensures
    (handing seen_expr (top expr_in (tops c.pop_perhaps.new.parts.items)) _ (seen_pair (option_map seen_expr) seen_expr) c.in-Ok.value (tops c.pop_expr.new.parts.items) _ _ c.in-Ok.ensures
    (refl, refl)))
