use Rattle.std.proofs.Common.{◌∷◌, Some, subst}
use Rattle.rag_io.specs.Tokens.{seen_token}
use Rattle.aspect_items.specs.Expressions.{Cast, seen_expr, seen_name}
use Rattle.jrag_reader.specs.Making.{cast_on, make_cast}
use Rattle.jrag_reader.specs.Parts.{Formed, top, expr_in}
use Rattle.jrag_reader.specs.Stack.{Makes, seen_pair, tops}
use Rattle.jrag_reader.proofs.SeenForms.{seen_cast}
use Rattle.jrag_reader.proofs.Taking.{making, missing, unmade}
use Rattle.jrag_reader.proofs.expression_forms.make_cast.Goals as goal

pub returns-in_default : goal.returns-in_default
returns-in_default c =
    making seen_expr (top expr_in (tops c.args.parts.now.items)) _ c.in_ok-operand.operand (tops c.pop_expr.new.parts.items) _ _ c.in_ok-operand.ensures
    (missing (seen_pair seen_token seen_name) (cast_on (tops c.pop_expr.new.parts.items)) _ _ _ (tops c.take_cast.new.parts.items) _ c.in_default.ensures)

pub returns-in_default-boxed : goal.returns-in_default-boxed
returns-in_default-boxed c = unmade (make_cast (tops c.args.parts.now.items)) c.no_memory.result _ c.no_memory.ensures

pub returns : goal.returns
returns c =
    making seen_expr (top expr_in (tops c.args.parts.now.items)) _ c.in_ok-operand.operand (tops c.pop_expr.new.parts.items) _ _ c.in_ok-operand.ensures
    (making (seen_pair seen_token seen_name) (cast_on (tops c.pop_expr.new.parts.items)) _ (c.in-Ok.open, c.in-Ok.class) (tops c.take_cast.new.parts.items) _ _ c.in-Ok.ensures
    (rw (← c.place_of.ensures)
    (subst (λ e. Makes (Some (Formed (Cast c.place_of.result (seen_name c.in-Ok.class) e) ∷ tops c.take_cast.new.parts.items)) c.say.result (tops c.say.new.parts.items)) c.in-Ok-boxed.ensures
    (subst (λ e. Makes (Some (Formed e ∷ tops c.take_cast.new.parts.items)) c.say.result (tops c.say.new.parts.items))
    (seen_cast c.place_of.result c.in-Ok.class c.in-Ok-boxed.operand) c.say.ensures))))
