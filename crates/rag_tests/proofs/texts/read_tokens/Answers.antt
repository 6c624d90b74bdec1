-- The texts of the first tokens are quoted, as those of all are.
use Rattle.std.proofs.Common.{List, subst, sym}
use Rattle.rag_io.specs.Tokens.{seen_tokens}
use Rattle.rag_io.specs.declared.token.Token as kept_token
use Rattle.token_texts.specs.Texts.{AllQuoted}
use Rattle.token_texts.proofs.Quoted.{quoted_front_seen, quoted_tokens}
use Rattle.rag_tests.proofs.texts.read_tokens.Goals as goal

pub pool_texts-requires : goal.pool_texts-requires
pool_texts-requires c =
    quoted_front_seen c.deref.result.now
    (subst (λ (ts : List kept_token.Token). AllQuoted (seen_tokens ts)) (sym c.deref.ensures.value)
    (quoted_tokens (record { bytes = _; scanned = c.in_ok-tokens.ensures })))
    _
