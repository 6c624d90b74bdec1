use Rattle.std.proofs.Common.{drop}
use Rattle.rag_io.specs.Tokens.{seen_tokens}
use Rattle.token_texts.proofs.Pooling.{PoolsOn}
use Rattle.token_texts.proofs.texts.pool_texts.Given as goal

abbrev pub invariant-loop-token : goal.invariant-loop-token
invariant-loop-token l = PoolsOn l.rule l.fn.pool l.fn.broken (seen_tokens l.tokens) l.pool l.broken l.codes.items (drop l.token-index (seen_tokens l.tokens))
