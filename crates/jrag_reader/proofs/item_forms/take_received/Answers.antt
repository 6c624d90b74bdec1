use Rattle.std.proofs.Common.{refl}
use Rattle.aspect_items.specs.Expressions.{seen_expr}
use Rattle.jrag_reader.specs.Making.{target_before}
use Rattle.jrag_reader.specs.Parts.{top, token_in, expr_in}
use Rattle.jrag_reader.specs.Stack.{seen_names, seen_pair, seen_token_and_code, tops}
use Rattle.jrag_reader.proofs.Taking.{handing, lacking}
use Rattle.jrag_reader.proofs.item_forms.take_received.Goals as goal

pub returns-in_default : goal.returns-in_default
returns-in_default c =
    handing seen_token_and_code (top token_in (tops c.args.parts.now.items)) _ (seen_pair seen_expr seen_names) c.in_ok-_semicolon._semicolon (tops c.pop_token.new.parts.items) _ _ c.in_ok-_semicolon.ensures
    (handing seen_expr (top expr_in (tops c.pop_token.new.parts.items)) _ (seen_pair seen_expr seen_names) c.in_ok-receiver.receiver (tops c.pop_expr.new.parts.items) _ _ c.in_ok-receiver.ensures
    (lacking seen_names (target_before (tops c.pop_expr.new.parts.items)) _ (seen_pair seen_expr seen_names) _ _ (tops c.take_target_before.new.parts.items) _ c.in_default.ensures c.misfit.ensures))

pub returns : goal.returns
returns c =
    handing seen_token_and_code (top token_in (tops c.args.parts.now.items)) _ (seen_pair seen_expr seen_names) c.in_ok-_semicolon._semicolon (tops c.pop_token.new.parts.items) _ _ c.in_ok-_semicolon.ensures
    (handing seen_expr (top expr_in (tops c.pop_token.new.parts.items)) _ (seen_pair seen_expr seen_names) c.in_ok-receiver.receiver (tops c.pop_expr.new.parts.items) _ _ c.in_ok-receiver.ensures
    (handing seen_names (target_before (tops c.pop_expr.new.parts.items)) _ (seen_pair seen_expr seen_names) c.in-Ok.target (tops c.take_target_before.new.parts.items) _ _ c.in-Ok.ensures
    (refl, refl)))
