use Rattle.std.proofs.Common.{◌∷◌, Some, subst}
use Rattle.rag_io.specs.Tokens.{seen_token}
use Rattle.aspect_items.specs.Expressions.{Quantified, seen_expr, seen_name}
use Rattle.jrag_reader.specs.Making.{binder_on, make_quantified, marked_on}
use Rattle.jrag_reader.specs.Parts.{Formed, top, token_in, expr_in}
use Rattle.jrag_reader.specs.Stack.{Makes, seen_pair, seen_token_and_code, tops}
use Rattle.jrag_reader.proofs.SeenForms.{seen_quantified}
use Rattle.jrag_reader.proofs.Taking.{making, missing, unmade}
use Rattle.jrag_reader.proofs.expression_forms.make_quantified.Goals as goal

pub returns-in_default : goal.returns-in_default
returns-in_default c =
    making seen_token_and_code (top token_in (tops c.args.parts.now.items)) _ c.in_ok-_close._close (tops c.pop_token.new.parts.items) _ _ c.in_ok-_close.ensures
    (making seen_expr (top expr_in (tops c.pop_token.new.parts.items)) _ c.in_ok-read.read (tops c.pop_expr.new.parts.items) _ _ c.in_ok-read.ensures
    (missing (seen_pair seen_token seen_expr) (marked_on (tops c.pop_expr.new.parts.items)) _ _ _ (tops c.take_marked.new.parts.items) _ c.in_default.ensures))

pub returns-in_default-take_binder : goal.returns-in_default-take_binder
returns-in_default-take_binder c =
    making seen_token_and_code (top token_in (tops c.args.parts.now.items)) _ c.in_ok-_close._close (tops c.pop_token.new.parts.items) _ _ c.in_ok-_close.ensures
    (making seen_expr (top expr_in (tops c.pop_token.new.parts.items)) _ c.in_ok-read.read (tops c.pop_expr.new.parts.items) _ _ c.in_ok-read.ensures
    (making (seen_pair seen_token seen_expr) (marked_on (tops c.pop_expr.new.parts.items)) _ (c.in-Ok._bar, c.in-Ok.range) (tops c.take_marked.new.parts.items) _ _ c.in-Ok.ensures
    (missing (seen_pair (λ q. q) seen_name) (binder_on (tops c.take_marked.new.parts.items)) _ _ _ (tops c.take_binder.new.parts.items) _ c.in_default-take_binder.ensures)))

pub returns-in_default-both_boxed : goal.returns-in_default-both_boxed
returns-in_default-both_boxed c = unmade (make_quantified (tops c.args.parts.now.items)) c.no_memory.result _ c.no_memory.ensures

pub returns : goal.returns
returns c =
    making seen_token_and_code (top token_in (tops c.args.parts.now.items)) _ c.in_ok-_close._close (tops c.pop_token.new.parts.items) _ _ c.in_ok-_close.ensures
    (making seen_expr (top expr_in (tops c.pop_token.new.parts.items)) _ c.in_ok-read.read (tops c.pop_expr.new.parts.items) _ _ c.in_ok-read.ensures
    (making (seen_pair seen_token seen_expr) (marked_on (tops c.pop_expr.new.parts.items)) _ (c.in-Ok._bar, c.in-Ok.range) (tops c.take_marked.new.parts.items) _ _ c.in-Ok.ensures
    (making (seen_pair (λ q. q) seen_name) (binder_on (tops c.take_marked.new.parts.items)) _ ((c.in-Ok-take_binder.quantifier, c.in-Ok-take_binder.place), c.in-Ok-take_binder.bound) (tops c.take_binder.new.parts.items) _ _ c.in-Ok-take_binder.ensures
    (subst (λ e. Makes (Some (Formed (Quantified c.in-Ok-take_binder.quantifier c.in-Ok-take_binder.place (seen_name c.in-Ok-take_binder.bound) e (seen_expr c.in_ok-read.read)) ∷ tops c.take_binder.new.parts.items)) c.say.result (tops c.say.new.parts.items)) c.in-Ok-both_boxed.ensures.first
    (subst (λ e. Makes (Some (Formed (Quantified c.in-Ok-take_binder.quantifier c.in-Ok-take_binder.place (seen_name c.in-Ok-take_binder.bound) (seen_expr c.in-Ok-both_boxed.range.value) e) ∷ tops c.take_binder.new.parts.items)) c.say.result (tops c.say.new.parts.items)) c.in-Ok-both_boxed.ensures.last
    (subst (λ e. Makes (Some (Formed e ∷ tops c.take_binder.new.parts.items)) c.say.result (tops c.say.new.parts.items))
    (seen_quantified c.in-Ok-take_binder.quantifier c.in-Ok-take_binder.place c.in-Ok-take_binder.bound c.in-Ok-both_boxed.range c.in-Ok-both_boxed.read) c.say.ensures))))))
