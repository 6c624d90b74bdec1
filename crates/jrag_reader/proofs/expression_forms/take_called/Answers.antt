use Rattle.std.proofs.Common.{map, refl}
use Rattle.std.specs.Prelude.{Vec}
use Rattle.std.specs.declared.alloc.Global.{Global}
use Rattle.aspect_items.specs.declared.expression.Expr.{Expr as KeptExpr}
use Rattle.aspect_items.specs.Expressions.{seen_expr, seen_name}
use Rattle.jrag_reader.specs.Making.{arguments_on}
use Rattle.jrag_reader.specs.Parts.{top, name_in}
use Rattle.jrag_reader.specs.Stack.{seen_pair, tops}
use Rattle.jrag_reader.proofs.Taking.{handing, lacking}
use Rattle.jrag_reader.proofs.expression_forms.take_called.Goals as goal

pub returns-in_default : goal.returns-in_default
returns-in_default c =
    handing (λ (v : Vec KeptExpr Global). map seen_expr v.items) (arguments_on (tops c.args.parts.now.items)) _ (seen_pair seen_name (λ (v : Vec KeptExpr Global). map seen_expr v.items)) c.in_ok-arguments.arguments (tops c.take_arguments.new.parts.items) _ _ c.in_ok-arguments.ensures
    (lacking seen_name (top name_in (tops c.take_arguments.new.parts.items)) _ (seen_pair seen_name (λ (v : Vec KeptExpr Global). map seen_expr v.items)) _ _ (tops c.pop_name.new.parts.items) _ c.in_default.ensures c.misfit.ensures)

pub returns : goal.returns
returns c =
    handing (λ (v : Vec KeptExpr Global). map seen_expr v.items) (arguments_on (tops c.args.parts.now.items)) _ (seen_pair seen_name (λ (v : Vec KeptExpr Global). map seen_expr v.items)) c.in_ok-arguments.arguments (tops c.take_arguments.new.parts.items) _ _ c.in_ok-arguments.ensures
    (handing seen_name (top name_in (tops c.take_arguments.new.parts.items)) _ (seen_pair seen_name (λ (v : Vec KeptExpr Global). map seen_expr v.items)) c.in-Ok.name (tops c.pop_name.new.parts.items) _ _ c.in-Ok.ensures
    (refl, refl))
