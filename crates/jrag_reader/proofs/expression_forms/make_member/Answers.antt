use Rattle.std.proofs.Common.{◌∷◌, Some, map, subst}
use Rattle.std.specs.Prelude.{Vec}
use Rattle.std.specs.declared.alloc.Global.{Global}
use Rattle.rag_io.specs.Tokens.{seen_token}
use Rattle.aspect_items.specs.declared.expression.Expr.{Expr as KeptExpr}
use Rattle.aspect_items.specs.Expressions.{Member, arguments_of, seen_expr, seen_name}
use Rattle.jrag_reader.specs.Making.{called_on, make_member, marked_on}
use Rattle.jrag_reader.specs.Parts.{Formed}
use Rattle.jrag_reader.specs.Stack.{Makes, seen_pair, tops}
use Rattle.jrag_reader.proofs.SeenForms.{seen_member}
use Rattle.jrag_reader.proofs.Taking.{making, missing, unmade}
use Rattle.jrag_reader.proofs.expression_forms.make_member.Goals as goal

pub returns-in_default : goal.returns-in_default
returns-in_default c =
    making (seen_pair seen_name (λ (v : Vec KeptExpr Global). map seen_expr v.items)) (called_on (tops c.args.parts.now.items)) _ (c.in_ok-name.name, c.in_ok-name.arguments) (tops c.take_called.new.parts.items) _ _ c.in_ok-name.ensures
    (missing (seen_pair seen_token seen_expr) (marked_on (tops c.take_called.new.parts.items)) _ _ _ (tops c.take_marked.new.parts.items) _ c.in_default.ensures)

pub returns-in_default-boxed : goal.returns-in_default-boxed
returns-in_default-boxed c = unmade (make_member (tops c.args.parts.now.items)) c.no_memory.result _ c.no_memory.ensures

pub returns : goal.returns
returns c =
    making (seen_pair seen_name (λ (v : Vec KeptExpr Global). map seen_expr v.items)) (called_on (tops c.args.parts.now.items)) _ (c.in_ok-name.name, c.in_ok-name.arguments) (tops c.take_called.new.parts.items) _ _ c.in_ok-name.ensures
    (making (seen_pair seen_token seen_expr) (marked_on (tops c.take_called.new.parts.items)) _ (c.in-Ok._dot, c.in-Ok.receiver) (tops c.take_marked.new.parts.items) _ _ c.in-Ok.ensures
    (subst (λ e. Makes (Some (Formed (Member e (seen_name c.in_ok-name.name) (arguments_of (map seen_expr c.in_ok-name.arguments.items))) ∷ tops c.take_marked.new.parts.items))
    c.say.result (tops c.say.new.parts.items)) c.in-Ok-boxed.ensures
    (subst (λ e. Makes (Some (Formed e ∷ tops c.take_marked.new.parts.items)) c.say.result (tops c.say.new.parts.items))
    (seen_member c.in-Ok-boxed.receiver c.in_ok-name.name c.in_ok-name.arguments) c.say.ensures)))
