use Rattle.std.proofs.Common.{◌∷◌, ◌∙◌, ap, subst}
use Rattle.std.specs.Option.{option_map}
use Rattle.rag_io.specs.Tokens.{seen_token}
use Rattle.aspect_items.specs.Expressions.{Binary, seen_expr}
use Rattle.jrag_reader.specs.Making.{make_binary, operator_by, marked_on}
use Rattle.jrag_reader.specs.Parts.{Formed, top, expr_in}
use Rattle.jrag_reader.specs.Stack.{Makes, seen_pair, tops}
use Rattle.jrag_reader.proofs.Taking.{making, missing, unmade_there}
use Rattle.jrag_reader.proofs.expression_forms.make_binary.Goals as goal

pub returns-in_default : goal.returns-in_default
returns-in_default c =
    making seen_expr (top expr_in (tops c.args.parts.now.items)) _ c.in_ok-right.right (tops c.pop_expr.new.parts.items) _ _ c.in_ok-right.ensures
    (missing (seen_pair seen_token seen_expr) (marked_on (tops c.pop_expr.new.parts.items)) _ _ _ (tops c.take_marked.new.parts.items) _ c.in_default.ensures)

pub returns-in_err-left : goal.returns-in_err-left
returns-in_err-left c =
    unmade_there (make_binary c.args.start (tops c.args.parts.now.items)) c.from_residual-in_err-left.result _ c.from_residual-in_err-left.ensures

pub returns : goal.returns
returns c =
    making seen_expr (top expr_in (tops c.args.parts.now.items)) _ c.in_ok-right.right (tops c.pop_expr.new.parts.items) _ _ c.in_ok-right.ensures
    (making (seen_pair seen_token seen_expr) (marked_on (tops c.pop_expr.new.parts.items)) _ (c.in-Ok.sign, c.in-Ok.left) (tops c.take_marked.new.parts.items) _ _ c.in-Ok.ensures
    (subst (λ o. Makes (option_map (λ x. Formed (Binary x (seen_expr c.in-Ok.left) (seen_expr c.in_ok-right.right)) ∷ tops c.take_marked.new.parts.items) o) c.push_binary.result (tops c.push_binary.new.parts.items))
    (c.operator_of.ensures ∙ ap operator_by c.class_of.ensures)
    (subst (λ e. Makes (option_map (λ x. Formed (Binary x e (seen_expr c.in_ok-right.right)) ∷ tops c.take_marked.new.parts.items) c.operator_of.result) c.push_binary.result (tops c.push_binary.new.parts.items)) c.in_ok-left.ensures.first
    (subst (λ e. Makes (option_map (λ x. Formed (Binary x (seen_expr c.in_ok-left.left.value) e) ∷ tops c.take_marked.new.parts.items) c.operator_of.result) c.push_binary.result (tops c.push_binary.new.parts.items)) c.in_ok-left.ensures.last
    c.push_binary.ensures))))
