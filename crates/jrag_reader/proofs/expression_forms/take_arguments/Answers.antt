use Rattle.std.proofs.Common.{map, refl}
use Rattle.std.specs.Prelude.{Vec}
use Rattle.std.specs.declared.alloc.Global.{Global}
use Rattle.aspect_items.specs.declared.expression.Expr.{Expr as KeptExpr}
use Rattle.aspect_items.specs.Expressions.{seen_expr}
use Rattle.jrag_reader.specs.Parts.{top, token_in, arguments_in}
use Rattle.jrag_reader.specs.Stack.{seen_token_and_code, tops}
use Rattle.jrag_reader.proofs.Taking.{handing, lacking}
use Rattle.jrag_reader.proofs.expression_forms.take_arguments.Goals as goal

pub returns-in_default : goal.returns-in_default
returns-in_default c =
    handing seen_token_and_code (top token_in (tops c.args.parts.now.items)) _ (λ (v : Vec KeptExpr Global). map seen_expr v.items) c.in_ok-_close._close (tops c.pop_token.new.parts.items) _ _ c.in_ok-_close.ensures
    (handing (λ (v : Vec KeptExpr Global). map seen_expr v.items) (top arguments_in (tops c.pop_token.new.parts.items)) _ (λ (v : Vec KeptExpr Global). map seen_expr v.items) c.in_ok-arguments.arguments (tops c.pop_arguments.new.parts.items) _ _ c.in_ok-arguments.ensures
    (lacking seen_token_and_code (top token_in (tops c.pop_arguments.new.parts.items)) _ (λ (v : Vec KeptExpr Global). map seen_expr v.items) _ _ (tops c.pop_token-2.new.parts.items) _ c.in_default.ensures c.misfit.ensures))

pub returns : goal.returns
returns c =
    handing seen_token_and_code (top token_in (tops c.args.parts.now.items)) _ (λ (v : Vec KeptExpr Global). map seen_expr v.items) c.in_ok-_close._close (tops c.pop_token.new.parts.items) _ _ c.in_ok-_close.ensures
    (handing (λ (v : Vec KeptExpr Global). map seen_expr v.items) (top arguments_in (tops c.pop_token.new.parts.items)) _ (λ (v : Vec KeptExpr Global). map seen_expr v.items) c.in_ok-arguments.arguments (tops c.pop_arguments.new.parts.items) _ _ c.in_ok-arguments.ensures
    (handing seen_token_and_code (top token_in (tops c.pop_arguments.new.parts.items)) _ (λ (v : Vec KeptExpr Global). map seen_expr v.items) c.in-Ok._open (tops c.pop_token-2.new.parts.items) _ _ c.in-Ok.ensures
    (refl, refl)))
