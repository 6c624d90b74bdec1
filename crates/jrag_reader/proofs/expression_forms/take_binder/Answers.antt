use Rattle.std.proofs.Common.{refl}
use Rattle.aspect_items.specs.Expressions.{seen_name}
use Rattle.jrag_reader.specs.Making.{quantifier_on}
use Rattle.jrag_reader.specs.Parts.{top, token_in, name_in}
use Rattle.jrag_reader.specs.Stack.{seen_pair, seen_token_and_code, tops}
use Rattle.jrag_reader.proofs.Taking.{handing, lacking}
use Rattle.jrag_reader.proofs.expression_forms.take_binder.Goals as goal

pub returns-in_default : goal.returns-in_default
returns-in_default c =
    handing seen_token_and_code (top token_in (tops c.args.parts.now.items)) _ (seen_pair (λ q. q) seen_name) c.in_ok-_colon._colon (tops c.pop_token.new.parts.items) _ _ c.in_ok-_colon.ensures
    (handing seen_name (top name_in (tops c.pop_token.new.parts.items)) _ (seen_pair (λ q. q) seen_name) c.in_ok-bound.bound (tops c.pop_name.new.parts.items) _ _ c.in_ok-bound.ensures
    (lacking (λ q. q) (quantifier_on (tops c.pop_name.new.parts.items)) _ (seen_pair (λ q. q) seen_name) _ _ (tops c.take_quantifier.new.parts.items) _ c.in_default.ensures c.misfit.ensures))

pub returns : goal.returns
returns c =
    handing seen_token_and_code (top token_in (tops c.args.parts.now.items)) _ (seen_pair (λ q. q) seen_name) c.in_ok-_colon._colon (tops c.pop_token.new.parts.items) _ _ c.in_ok-_colon.ensures
    (handing seen_name (top name_in (tops c.pop_token.new.parts.items)) _ (seen_pair (λ q. q) seen_name) c.in_ok-bound.bound (tops c.pop_name.new.parts.items) _ _ c.in_ok-bound.ensures
    (handing (λ q. q) (quantifier_on (tops c.pop_name.new.parts.items)) _ (seen_pair (λ q. q) seen_name) c.in-Ok.quantifier (tops c.take_quantifier.new.parts.items) _ _ c.in-Ok.ensures
    (refl, refl)))
