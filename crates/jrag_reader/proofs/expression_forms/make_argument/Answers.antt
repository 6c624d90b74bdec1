use Rattle.std.proofs.Common.{map}
use Rattle.std.specs.Prelude.{Vec}
use Rattle.std.specs.declared.alloc.Global.{Global}
use Rattle.aspect_items.specs.declared.expression.Expr.{Expr as KeptExpr}
use Rattle.aspect_items.specs.Expressions.{seen_expr}
use Rattle.jrag_reader.specs.Parts.{top, token_in, expr_in, arguments_in}
use Rattle.jrag_reader.specs.Stack.{seen_token_and_code, tops}
use Rattle.jrag_reader.proofs.Taking.{making, missing}
use Rattle.jrag_reader.proofs.expression_forms.make_argument.Goals as goal

pub returns-in_default : goal.returns-in_default
returns-in_default c =
    making seen_expr (top expr_in (tops c.args.parts.now.items)) _ c.in_ok-argument.argument (tops c.pop_expr.new.parts.items) _ _ c.in_ok-argument.ensures
    (missing seen_token_and_code (top token_in (tops c.pop_expr.new.parts.items)) _ _ _ (tops c.pop_token.new.parts.items) _ c.in_default.ensures)

pub returns-in_default-pop_arguments : goal.returns-in_default-pop_arguments
returns-in_default-pop_arguments c =
    making seen_expr (top expr_in (tops c.args.parts.now.items)) _ c.in_ok-argument.argument (tops c.pop_expr.new.parts.items) _ _ c.in_ok-argument.ensures
    (making seen_token_and_code (top token_in (tops c.pop_expr.new.parts.items)) _ c.in-Ok._comma (tops c.pop_token.new.parts.items) _ _ c.in-Ok.ensures
    (missing (λ (v : Vec KeptExpr Global). map seen_expr v.items) (top arguments_in (tops c.pop_token.new.parts.items)) _ _ _ (tops c.pop_arguments.new.parts.items) _ c.in_default-pop_arguments.ensures))

pub returns : goal.returns
returns c =
    making seen_expr (top expr_in (tops c.args.parts.now.items)) _ c.in_ok-argument.argument (tops c.pop_expr.new.parts.items) _ _ c.in_ok-argument.ensures
    (making seen_token_and_code (top token_in (tops c.pop_expr.new.parts.items)) _ c.in-Ok._comma (tops c.pop_token.new.parts.items) _ _ c.in-Ok.ensures
    (making (λ (v : Vec KeptExpr Global). map seen_expr v.items) (top arguments_in (tops c.pop_token.new.parts.items)) _ c.in-Ok-pop_arguments.arguments (tops c.pop_arguments.new.parts.items) _ _ c.in-Ok-pop_arguments.ensures
    (rw (← c.in_ok-push_argument.ensures) c.say.ensures)))
