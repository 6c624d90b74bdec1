use Rattle.std.proofs.Common.{refl}
use Rattle.std.specs.Option.{option_map}
use Rattle.aspect_items.specs.Expressions.{seen_expr}
use Rattle.aspect_items.specs.Items.{seen_signature}
use Rattle.jrag_reader.specs.Making.{behind_on}
use Rattle.jrag_reader.specs.Parts.{top, token_in, expr_in}
use Rattle.jrag_reader.specs.Stack.{seen_pair, seen_token_and_code, tops}
use Rattle.jrag_reader.proofs.Taking.{handing, lacking}
use Rattle.jrag_reader.proofs.item_forms.take_equated.Goals as goal

pub returns-in_default : goal.returns-in_default
returns-in_default c =
    handing seen_token_and_code (top token_in (tops c.args.parts.now.items)) _ (seen_pair seen_expr (option_map seen_signature)) c.in_ok-_semicolon._semicolon (tops c.pop_token.new.parts.items) _ _ c.in_ok-_semicolon.ensures
    (handing seen_expr (top expr_in (tops c.pop_token.new.parts.items)) _ (seen_pair seen_expr (option_map seen_signature)) c.in_ok-body.body (tops c.pop_expr.new.parts.items) _ _ c.in_ok-body.ensures
    (lacking (option_map seen_signature) (behind_on (tops c.pop_expr.new.parts.items)) _ (seen_pair seen_expr (option_map seen_signature)) _ _ (tops c.take_behind.new.parts.items) _ c.in_default.ensures c.misfit.ensures))

pub returns : goal.returns
returns c =
    handing seen_token_and_code (top token_in (tops c.args.parts.now.items)) _ (seen_pair seen_expr (option_map seen_signature)) c.in_ok-_semicolon._semicolon (tops c.pop_token.new.parts.items) _ _ c.in_ok-_semicolon.ensures
    (handing seen_expr (top expr_in (tops c.pop_token.new.parts.items)) _ (seen_pair seen_expr (option_map seen_signature)) c.in_ok-body.body (tops c.pop_expr.new.parts.items) _ _ c.in_ok-body.ensures
    (handing (option_map seen_signature) (behind_on (tops c.pop_expr.new.parts.items)) _ (seen_pair seen_expr (option_map seen_signature)) c.in-Ok.inherited (tops c.take_behind.new.parts.items) _ _ c.in-Ok.ensures
    (refl, refl)))
