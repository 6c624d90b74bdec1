use Rattle.std.proofs.Common.{map}
use Rattle.std.specs.Prelude.{Vec}
use Rattle.std.specs.declared.alloc.Global.{Global}
use Rattle.aspect_items.specs.declared.items.Parameter.{Parameter as KeptParameter}
use Rattle.aspect_items.specs.Items.{seen_parameter}
use Rattle.jrag_reader.specs.Making.{parameter_on}
use Rattle.jrag_reader.specs.Parts.{top, token_in, parameters_in}
use Rattle.jrag_reader.specs.Stack.{seen_token_and_code, tops}
use Rattle.jrag_reader.proofs.Taking.{making, missing}
use Rattle.jrag_reader.proofs.item_forms.make_parameter.Goals as goal

pub returns-in_default : goal.returns-in_default
returns-in_default c =
    making seen_parameter (parameter_on (tops c.args.parts.now.items)) _ c.in_ok-parameter.parameter (tops c.take_parameter.new.parts.items) _ _ c.in_ok-parameter.ensures
    (missing seen_token_and_code (top token_in (tops c.take_parameter.new.parts.items)) _ _ _ (tops c.pop_token.new.parts.items) _ c.in_default.ensures)

pub returns-in_default-pop_parameters : goal.returns-in_default-pop_parameters
returns-in_default-pop_parameters c =
    making seen_parameter (parameter_on (tops c.args.parts.now.items)) _ c.in_ok-parameter.parameter (tops c.take_parameter.new.parts.items) _ _ c.in_ok-parameter.ensures
    (making seen_token_and_code (top token_in (tops c.take_parameter.new.parts.items)) _ c.in-Ok._comma (tops c.pop_token.new.parts.items) _ _ c.in-Ok.ensures
    (missing (λ (v : Vec KeptParameter Global). map seen_parameter v.items) (top parameters_in (tops c.pop_token.new.parts.items)) _ _ _ (tops c.pop_parameters.new.parts.items) _ c.in_default-pop_parameters.ensures))

pub returns : goal.returns
returns c =
    making seen_parameter (parameter_on (tops c.args.parts.now.items)) _ c.in_ok-parameter.parameter (tops c.take_parameter.new.parts.items) _ _ c.in_ok-parameter.ensures
    (making seen_token_and_code (top token_in (tops c.take_parameter.new.parts.items)) _ c.in-Ok._comma (tops c.pop_token.new.parts.items) _ _ c.in-Ok.ensures
    (making (λ (v : Vec KeptParameter Global). map seen_parameter v.items) (top parameters_in (tops c.pop_token.new.parts.items)) _ c.in-Ok-pop_parameters.parameters (tops c.pop_parameters.new.parts.items) _ _ c.in-Ok-pop_parameters.ensures
    (rw (← c.in_ok-push_parameter.ensures) c.say.ensures)))
