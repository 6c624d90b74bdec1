use Rattle.std.proofs.Common.{◌∷◌, Some, subst}
use Rattle.rag_io.specs.Tokens.{seen_token}
use Rattle.aspect_items.specs.Expressions.{seen_expr}
use Rattle.jrag_reader.specs.Making.{marked_on}
use Rattle.jrag_reader.specs.Parts.{Formed, top, expr_in}
use Rattle.jrag_reader.specs.Stack.{Makes, seen_pair, tops}
use Rattle.jrag_reader.proofs.Taking.{making, missing}
use Rattle.jrag_reader.proofs.expression_forms.make_choice.Goals as goal

pub returns-in_default : goal.returns-in_default
returns-in_default c =
    making seen_expr (top expr_in (tops c.args.parts.now.items)) _ c.in_ok-otherwise.otherwise (tops c.pop_expr.new.parts.items) _ _ c.in_ok-otherwise.ensures
    (missing (seen_pair seen_token seen_expr) (marked_on (tops c.pop_expr.new.parts.items)) _ _ _ (tops c.take_marked.new.parts.items) _ c.in_default.ensures)

pub returns-in_default-take_marked : goal.returns-in_default-take_marked
returns-in_default-take_marked c =
    making seen_expr (top expr_in (tops c.args.parts.now.items)) _ c.in_ok-otherwise.otherwise (tops c.pop_expr.new.parts.items) _ _ c.in_ok-otherwise.ensures
    (making (seen_pair seen_token seen_expr) (marked_on (tops c.pop_expr.new.parts.items)) _ (c.in-Ok._colon, c.in-Ok.then) (tops c.take_marked.new.parts.items) _ _ c.in-Ok.ensures
    (missing (seen_pair seen_token seen_expr) (marked_on (tops c.take_marked.new.parts.items)) _ _ _ (tops c.take_marked-2.new.parts.items) _ c.in_default-take_marked.ensures))

pub returns : goal.returns
returns c =
    making seen_expr (top expr_in (tops c.args.parts.now.items)) _ c.in_ok-otherwise.otherwise (tops c.pop_expr.new.parts.items) _ _ c.in_ok-otherwise.ensures
    (making (seen_pair seen_token seen_expr) (marked_on (tops c.pop_expr.new.parts.items)) _ (c.in-Ok._colon, c.in-Ok.then) (tops c.take_marked.new.parts.items) _ _ c.in-Ok.ensures
    (making (seen_pair seen_token seen_expr) (marked_on (tops c.take_marked.new.parts.items)) _ (c.in-Ok-take_marked._mark, c.in-Ok-take_marked.condition) (tops c.take_marked-2.new.parts.items) _ _ c.in-Ok-take_marked.ensures
    (subst (λ e. Makes (Some (Formed e ∷ tops c.take_marked-2.new.parts.items)) c.say.result (tops c.say.new.parts.items)) c.in_ok-choice.ensures c.say.ensures)))
