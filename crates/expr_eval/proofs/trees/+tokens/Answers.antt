-- What the tokens that were evaluated give.
use Rattle.expr_eval.proofs.Forms.{boxed, came_as}
use Rattle.expr_eval.proofs.NewTokens.{boxed_tokens, child_goes, child_halts, none_made, said_tokens, thrown_tokens, token_goes, token_halts}
use Rattle.expr_eval.proofs.trees.+tokens.Goals as goal

pub returns-in-End : goal.returns-in-End
returns-in-End g t c = said_tokens c.in-End.is (none_made c.requires.ready)

pub returns-in_err-value-in-Token : goal.returns-in_err-value-in-Token
returns-in_err-value-in-Token g t c = thrown_tokens c.from_residual.ensures (said_tokens c.in-Token.is (token_halts (boxed c.deref.ensures (came_as c.in_err-value-in-Token.was c.meaning.ensures))))

pub returns-in_ok-push-in-Token : goal.returns-in_ok-push-in-Token
returns-in_ok-push-in-Token g t c =
    said_tokens c.in-Token.is
    (token_goes c.argument_code.result (boxed c.deref.ensures (came_as c.in_ok-value-in-Token.was c.meaning.ensures)) c.argument_code.ensures.code c.argument_code.ensures.value c.in_ok-push-in-Token.ensures (boxed_tokens c.deref-in-Token.ensures c.put_tokens.ensures))

pub returns-in_err-put_tokens-in-Child : goal.returns-in_err-put_tokens-in-Child
returns-in_err-put_tokens-in-Child g t c = thrown_tokens c.from_residual-in_err-put_tokens-in-Child.ensures (said_tokens c.in-Child.is (child_halts (boxed_tokens c.deref-in-Child.ensures c.in_err-put_tokens-in-Child.ensures)))

pub returns-in_ok-put_tokens-in-Child : goal.returns-in_ok-put_tokens-in-Child
returns-in_ok-put_tokens-in-Child g t c = said_tokens c.in-Child.is (child_goes (boxed_tokens c.deref-in-Child.ensures c.in_ok-put_tokens-in-Child.ensures) (boxed_tokens c.deref-in-Child-2.ensures c.put_tokens-in-Child-2.ensures))
