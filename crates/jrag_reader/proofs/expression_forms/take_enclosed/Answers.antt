use Rattle.std.proofs.Common.{refl}
use Rattle.rag_io.specs.Tokens.{seen_token}
use Rattle.aspect_items.specs.Expressions.{seen_expr}
use Rattle.jrag_reader.specs.Parts.{top, token_in, expr_in}
use Rattle.jrag_reader.specs.Stack.{seen_pair, seen_token_and_code, tops}
use Rattle.jrag_reader.proofs.Taking.{handing, lacking}
use Rattle.jrag_reader.proofs.expression_forms.take_enclosed.Goals as goal

pub returns-in_default : goal.returns-in_default
returns-in_default c =
    handing seen_token_and_code (top token_in (tops c.args.parts.now.items)) _ (seen_pair seen_token seen_expr) c.in_ok-_close._close (tops c.pop_token.new.parts.items) _ _ c.in_ok-_close.ensures
    (handing seen_expr (top expr_in (tops c.pop_token.new.parts.items)) _ (seen_pair seen_token seen_expr) c.in_ok-expr.expr (tops c.pop_expr.new.parts.items) _ _ c.in_ok-expr.ensures
    (lacking seen_token_and_code (top token_in (tops c.pop_expr.new.parts.items)) _ (seen_pair seen_token seen_expr) _ _ (tops c.pop_token-2.new.parts.items) _ c.in_default.ensures c.misfit.ensures))

pub returns : goal.returns
returns c =
    handing seen_token_and_code (top token_in (tops c.args.parts.now.items)) _ (seen_pair seen_token seen_expr) c.in_ok-_close._close (tops c.pop_token.new.parts.items) _ _ c.in_ok-_close.ensures
    (handing seen_expr (top expr_in (tops c.pop_token.new.parts.items)) _ (seen_pair seen_token seen_expr) c.in_ok-expr.expr (tops c.pop_expr.new.parts.items) _ _ c.in_ok-expr.ensures
    (handing seen_token_and_code (top token_in (tops c.pop_expr.new.parts.items)) _ (seen_pair seen_token seen_expr) (c.in-Ok.open, c.in-Ok.field-0-1) (tops c.pop_token-2.new.parts.items) _ _ c.in-Ok.ensures
    (refl, refl)))
