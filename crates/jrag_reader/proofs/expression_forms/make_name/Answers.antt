use Rattle.jrag_reader.specs.Parts.{top, token_in}
use Rattle.jrag_reader.specs.Stack.{seen_token_and_code, tops}
use Rattle.jrag_reader.proofs.Taking.{making}
use Rattle.jrag_reader.proofs.expression_forms.make_name.Goals as goal

pub returns : goal.returns
returns c =
    making seen_token_and_code (top token_in (tops c.args.parts.now.items)) _
    (c.in_ok-token.token, c.in_ok-token.field-0-1) (tops c.pop_token.new.parts.items) _ _ c.in_ok-token.ensures
    (rw (← c.class_of.ensures, ← c.quantifier_of-quantifier.ensures, ← c.in_ok-name.ensures, ← c.named.ensures) c.say.ensures)
