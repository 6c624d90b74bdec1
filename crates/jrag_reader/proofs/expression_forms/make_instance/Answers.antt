use Rattle.std.proofs.Common.{◌∷◌, Some, subst}
use Rattle.rag_io.specs.Tokens.{seen_token}
use Rattle.aspect_items.specs.Expressions.{InstanceOf, seen_expr, seen_name}
use Rattle.jrag_reader.specs.Making.{make_instance, marked_on}
use Rattle.jrag_reader.specs.Parts.{Formed, top, name_in}
use Rattle.jrag_reader.specs.Stack.{Makes, seen_pair, tops}
use Rattle.jrag_reader.proofs.SeenForms.{seen_instance}
use Rattle.jrag_reader.proofs.Taking.{making, missing, unmade}
use Rattle.jrag_reader.proofs.expression_forms.make_instance.Goals as goal

pub returns-in_default : goal.returns-in_default
returns-in_default c =
    making seen_name (top name_in (tops c.args.parts.now.items)) _ c.in_ok-class.class (tops c.pop_name.new.parts.items) _ _ c.in_ok-class.ensures
    (missing (seen_pair seen_token seen_expr) (marked_on (tops c.pop_name.new.parts.items)) _ _ _ (tops c.take_marked.new.parts.items) _ c.in_default.ensures)

pub returns-in_default-boxed : goal.returns-in_default-boxed
returns-in_default-boxed c = unmade (make_instance (tops c.args.parts.now.items)) c.no_memory.result _ c.no_memory.ensures

pub returns : goal.returns
returns c =
    making seen_name (top name_in (tops c.args.parts.now.items)) _ c.in_ok-class.class (tops c.pop_name.new.parts.items) _ _ c.in_ok-class.ensures
    (making (seen_pair seen_token seen_expr) (marked_on (tops c.pop_name.new.parts.items)) _ (c.in-Ok._word, c.in-Ok.operand) (tops c.take_marked.new.parts.items) _ _ c.in-Ok.ensures
    (subst (λ e. Makes (Some (Formed (InstanceOf e (seen_name c.in_ok-class.class)) ∷ tops c.take_marked.new.parts.items)) c.say.result (tops c.say.new.parts.items)) c.in-Ok-boxed.ensures
    (subst (λ e. Makes (Some (Formed e ∷ tops c.take_marked.new.parts.items)) c.say.result (tops c.say.new.parts.items))
    (seen_instance c.in-Ok-boxed.operand c.in_ok-class.class) c.say.ensures)))
